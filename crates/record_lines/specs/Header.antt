-- The text form: `F RECORDS WORDS MIN CAP MINDUPLEX LEGACY OUTERLEN OUTERQ SSQ MAXDIS RATE R1 R2 COLS LIST MARKS`.
use Rattle.std.specs.Prelude.{List, [], ◌∷◌, ℕ, eqb, get_or, Option}
use Rattle.std.specs.Float.Ieee.{of_bits}
use Rattle.std.specs.Float.{binary64}
use Rattle.std.specs.Option.{option_map}
use Rattle.codec_records.specs.declared.options.Options.{Options}
use Rattle.table_text.specs.Text.{bytes_of}
use Rattle.line_text.specs.Line.{any, number_at, line_of}
use Rattle.line_text.specs.Value.{is_number}
use Rattle.line_text.specs.declared.value.Kind.{Kind}
use Rattle.line_text.specs.declared.value.Kind.TheVariants.{Plain, OrNone}
use Rattle.line_text.specs.declared.value.Value.{Value}
use Rattle.line_text.specs.declared.value.Value.TheVariants.{Nothing}
use Rattle.record_lines.specs.declared.header.Header.{Header}

-- 600 records, 9,000 words, 2,100 in COLS, 600 in LIST, 16 in MARKS; a quality has 8 bits; CAP, OUTERQ and SSQ may be none
abbrev pub header_layout : List Kind
header_layout =
    Plain 600 ∷ Plain 9000 ∷ Plain any ∷ OrNone any ∷ Plain any ∷ Plain 1 ∷ Plain any ∷ OrNone 255 ∷ OrNone 255 ∷ Plain any ∷ Plain any
    ∷ Plain 1 ∷ Plain 1 ∷ Plain 2100 ∷ Plain 600 ∷ Plain 16 ∷ []

-- the options in their order; RATE is the decimal of its 64 bits
unfoldable pub options_from : List Value → Options
options_from values = record {
  min_reads_per_strand = number_at values 2;
  has_max_reads_per_strand = is_number (get_or values 3 Nothing);
  max_reads_per_strand = number_at values 3;
  min_duplex_length = number_at values 4;
  legacy_overlap_window = eqb (number_at values 5) 1;
  outer_bases_length = number_at values 6;
  has_outer_bases_qual = is_number (get_or values 7 Nothing);
  outer_bases_qual = number_at values 7;
  has_single_strand_qual = is_number (get_or values 8 Nothing);
  single_strand_qual = number_at values 8;
  max_duplex_disagreements = number_at values 9;
  max_duplex_disagreement_rate = of_bits binary64 (number_at values 10);
}

-- the fields before and after them
unfoldable pub header_from : List Value → Header
header_from values = record {
  records = number_at values 0;
  words = number_at values 1;
  options = options_from values;
  r1_follows = eqb (number_at values 11) 1;
  r2_follows = eqb (number_at values 12) 1;
  columns = number_at values 13;
  list = number_at values 14;
  marks = number_at values 15;
}

-- a family's first line
unfoldable pub header_of : List ℕ → Option Header
header_of line = option_map header_from (line_of (bytes_of "F") header_layout line)
