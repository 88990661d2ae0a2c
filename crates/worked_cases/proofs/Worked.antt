-- Every row of the table holds of the definitions: one statement, computed.
use lib.Dec.{T}
use Rattle.std.specs.List.{list_all}
use Rattle.lists.specs.Tabulate.{tabulate}
use Rattle.lists.specs.Total.{total}
use Rattle.raw_bam.specs.Cigar.{read_bases}
use Rattle.raw_bam.specs.Operations.{consumes_read}
use Rattle.raw_bam.specs.Prefix.{is_prefix, smaller}
use Rattle.raw_bam.specs.Simplified.{kind_of, simple_entry, prepend_by, joined_by, simplified}
use Rattle.lists.specs.Member.{is_in}
use Rattle.vanilla_caller.specs.Group.{join_or_found, groups_after, winner, most_common, staying}
use Rattle.vanilla_caller.specs.Order.{insert_by_length, by_length}
use Rattle.codec_duplex.specs.Position.{combined}
use Rattle.worked_cases.specs.Cases.{cases, holds}

pub worked : T (list_all holds cases)
unfolding cases holds combined staying most_common is_in tabulate total read_bases consumes_read simplified joined_by prepend_by simple_entry kind_of by_length insert_by_length groups_after join_or_found winner is_prefix smaller
worked = tt
