-- The records of a family.
use Rattle.std.specs.Prelude.{false, cond, List, map, ◌≡◌, ℕ, ◌<◌, ltb, pos, length, get_or, take, drop}
use Rattle.codec_records.specs.declared.columns.Columns.{Columns}
use Rattle.codec_records.specs.declared.family.Family.{Family}
use Rattle.codec_records.specs.declared.records.Record.{Record}

-- a record of zeros, with which a table is filled up
abbrev pub blank : Record
blank = record { flags = 0; name = 0; verdict = false; rank = pos 0; clipped = 0; position = 0; start = 0; count = 0 }

-- the operation words of record r
abbrev pub operations_of : Family → ℕ → List ℕ
operations_of f r = take (get_or f.counts.now r 0) (drop (get_or f.starts.now r 0) f.ops.now)

-- how many records the columns take: none of too many
abbrev pub room_of : ℕ → ℕ
room_of given = cond (ltb 512 given) 0 given

-- one field of each record
abbrev pub column : {A : Type 0} → (Record → A) → List Record → List A
column field records = map field records

-- the first n places of each column are a field of n records
pub record Holds (columns : Columns) (n : ℕ) (records : List Record) : Type 0 where
  pub as_many : n ≡ length records
  pub flags_are : take n columns.flags ≡ column Record.flags records
  pub names_are : take n columns.names ≡ column Record.name records
  pub verdicts_are : take n columns.verdicts ≡ column Record.verdict records
  pub ranks_are : take n columns.ranks ≡ column Record.rank records
  pub clipped_are : take n columns.clipped ≡ column Record.clipped records
  pub positions_are : take n columns.positions ≡ column Record.position records
  pub starts_are : take n columns.starts ≡ column Record.start records
  pub counts_are : take n columns.counts ≡ column Record.count records

-- every record of a side is one of the first n
abbrev pub Below : List ℕ → ℕ → Type 0
Below side n = (k : ℕ) → k < length side → get_or side k 0 < n

-- a family that is lent the records that columns have room for
pub record LendsFamily (columns : Columns) (ops : List ℕ) (family : Family) : Type 0 where
  pub given_is : family.given ≡ columns.given
  pub size : length family.flags.now ≡ room_of columns.given
  pub flags_are : family.flags.now ≡ take (room_of columns.given) columns.flags
  pub names_are : family.names.now ≡ take (room_of columns.given) columns.names
  pub verdicts_are : family.verdicts.now ≡ take (room_of columns.given) columns.verdicts
  pub ranks_are : family.ranks.now ≡ take (room_of columns.given) columns.ranks
  pub clipped_are : family.clipped.now ≡ take (room_of columns.given) columns.clipped
  pub positions_are : family.positions.now ≡ take (room_of columns.given) columns.positions
  pub starts_are : family.starts.now ≡ take (room_of columns.given) columns.starts
  pub counts_are : family.counts.now ≡ take (room_of columns.given) columns.counts
  pub ops_are : family.ops.now ≡ ops
