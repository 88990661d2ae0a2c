-- What a family call is lent, as the program keeps it.
use Rattle.codec_duplex.specs.Columns.{strand}
use Rattle.codec_duplex.specs.Duplex.{duplex}
use Rattle.codec_family.specs.Call.{Lent, lent_of}
use Rattle.family_calls.specs.declared.columns.Columns.{Columns}

abbrev pub columns_in : Columns → Lent
columns_in c =
    lent_of
    (duplex c.duplex_bases c.duplex_quals c.duplex_depths c.duplex_errors)
    (strand c.r1_bases c.r1_quals c.r1_depths c.r1_errors)
    (strand c.r2_bases c.r2_quals c.r2_depths c.r2_errors)
    c.listed c.reasons c.marks
