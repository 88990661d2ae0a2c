-- Document 02, Req 01: lines in front of a family. `G` and 20 numbers: 'from here on the ledger holds these figures'; `GS SAMPLE` and 20 numbers
-- set that sample's ledger; `N SAMPLE` names the sample of the families after it.
use Rattle.std.specs.Prelude.{List, ℕ, ◌*◌, ◌<◌, replicate, Option, Some, None, ⊤}
use Rattle.std.proofs.lemmas.List.Edits.{sets}
use Rattle.std.specs.Option.{option_map}
use Rattle.codec_stats.specs.Counts.{counts_of, ledger_of}
use Rattle.codec_stats.specs.Ledger.{Counts, fresh}
use Rattle.table_text.specs.Fields.{Read, number_field, fields_of}
use Rattle.table_text.specs.Rows.{alone}
use Rattle.table_text.specs.Text.{bytes_of}
use Rattle.line_text.specs.Line.{any, behind_tag}
use Rattle.line_text.specs.Numbers.{numbers_of, exactly}
use Rattle.ledger_lines.specs.declared.settings.Handed.{Handed}
use Rattle.ledger_lines.specs.declared.settings.Setting.{Setting}
use Rattle.ledger_lines.specs.declared.settings.Setting.TheVariants.{Run, Sample, Name}

-- 'Without a `G` line the first family is handed a fresh ledger'; no sample is named
abbrev pub fresh_handed : Handed
fresh_handed = record { ledger = fresh; samples = replicate 1920 0; sample = None }

-- SAMPLE is 0 to 95: another has no ledger
abbrev pub Settable : Setting → Type 0
Settable (Run ledger) = ⊤
Settable (Sample s ledger) = s < 96
Settable (Name s) = ⊤

-- what is handed after a line; ledger s is the places 20 s to 20 s + 19
abbrev pub set_by : Handed → Setting → Handed
set_by h (Run ledger) = record h { ledger = ledger }
set_by h (Sample s ledger) = record h { samples = sets h.samples (20 * s) (counts_of ledger) }
set_by h (Name s) = record h { sample = Some s }

-- twenty numbers of 64 bits in the order of the ledger, and nothing after them
unfoldable pub figures_of : List (List ℕ) → Option Counts
figures_of fields = option_map ledger_of (exactly 20 (numbers_of 20 any fields))

-- `G`: the run's ledger
abbrev pub run_of : List (List ℕ) → Option Setting
run_of fields = option_map Run (figures_of fields)

abbrev pub sample_then : Read ℕ → Option Setting
sample_then (Some (s, figures)) = option_map (Sample s) (figures_of figures)
sample_then None = None

-- `GS SAMPLE`: that sample's
abbrev pub sample_of : List (List ℕ) → Option Setting
sample_of fields = sample_then (number_field 95 fields)

-- `N SAMPLE`: one number of 32 bits, and nothing after it
abbrev pub name_of : List (List ℕ) → Option Setting
name_of fields = option_map Name (alone (number_field 4294967295 fields))

-- what a line says where it has a tag, and what it says where it has another
abbrev pub where_tagged : Option (List (List ℕ)) → (List (List ℕ) → Option Setting) → Option (Option Setting) → Option (Option Setting)
where_tagged (Some fields) says others = Some (says fields)
where_tagged None says others = others

-- what a line in front of a family sets, if it is not malformed; none where it is another line
unfoldable pub setting_of : List ℕ → Option (Option Setting)
setting_of line =
    where_tagged (behind_tag (bytes_of "G") (fields_of line)) run_of
    (where_tagged (behind_tag (bytes_of "N") (fields_of line)) name_of
    (where_tagged (behind_tag (bytes_of "GS") (fields_of line)) sample_of None))
