-- The rejected of the first i records are listed.
use Rattle.std.proofs.Common.{◌≡◌, ◌≤◌, length, get_or, map}
use Rattle.lists.specs.Written.{written}
use Rattle.codec_rejects.proofs.Listing.{rejected}
use Rattle.codec_rejects.proofs.rejects.write_list.Given as goal

abbrev pub invariant-loop-i : goal.invariant-loop-i
invariant-loop-i l =
    let listed = rejected l.fates l.i in
    record {
      count_is : l.count ≡ length listed;
      few : l.count ≤ l.i;
      records_are : l.records ≡ written listed l.initial.records;
      reasons_are : l.reasons ≡ written (map (λ k. get_or l.fates k 0) listed) l.initial.reasons;
    }
