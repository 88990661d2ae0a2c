-- A turn writes one record more.
use Rattle.std.proofs.Common.{◌<◌, pos, false, length, length-take, take, replicate, refl, arith, rules}
use Rattle.lists.proofs.Map.{written-map_put}
use Rattle.codec_records.specs.Records.{blank}
use Rattle.codec_records.specs.declared.records.Record.{Record}
use Rattle.codec_records.proofs.columns.gather.Goals as goal

pub loop-i-preserved : goal.loop-i-preserved
loop-i-preserved c =
    let so_far = c.loop-i.invariant in
    let items = take c.room-n.result c.args.records.now in
    let i = c.loop-i.i in
    let inside : i < length items = omega arith in
    let room : i < 512 = omega (arith, length-take c.room-n.result c.args.records.now) in
    record {
      given_is = so_far.given_is;
      flags_are = written-map_put Record.flags items blank (replicate 512 0) i inside room so_far.flags_are refl;
      names_are = written-map_put Record.name items blank (replicate 512 0) i inside room so_far.names_are refl;
      verdicts_are = written-map_put Record.verdict items blank (replicate 512 false) i inside room so_far.verdicts_are refl;
      ranks_are = written-map_put Record.rank items blank (replicate 512 (pos 0)) i inside room so_far.ranks_are (search rules);
      clipped_are = written-map_put Record.clipped items blank (replicate 512 0) i inside room so_far.clipped_are refl;
      positions_are = written-map_put Record.position items blank (replicate 512 0) i inside room so_far.positions_are refl;
      starts_are = written-map_put Record.start items blank (replicate 512 0) i inside room so_far.starts_are refl;
      counts_are = written-map_put Record.count items blank (replicate 512 0) i inside room so_far.counts_are refl;
    }
