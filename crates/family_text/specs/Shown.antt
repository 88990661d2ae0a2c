-- What was read, as the text form has it.
use Rattle.std.specs.Option.{option_map}
use Rattle.codec_duplex.specs.Lent.{strand_of}
use Rattle.family_text.specs.Family.{Family, family, Call}
use Rattle.family_text.specs.declared.call.Call.{Call as CallRead}
use Rattle.family_text.specs.declared.call.Family.{Family as FamilyRead}

abbrev pub family_in : FamilyRead → Family
family_in f = family f.header f.records.now f.words.now (option_map strand_of f.r1) (option_map strand_of f.r2)

abbrev pub call_in : CallRead → Call
call_in c = (c.handed, option_map family_in c.family)
