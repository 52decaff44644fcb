-- What a replay shows is written with 0: it is laid on the track and no word of it is over the limit, by what the replay promises.
use mathlib.Core.Path.{◌≡◌}
use Rattle.writer.specs.AfterReplay.{AfterReplay}

pub after_replay : AfterReplay
after_replay b log sheet replayed moves sheet' copy number count copy' w =
    let call = w.replay.only w.done in
    let shown = w.replay.right call in
    let written : number ≡ 0 = (w.write.numbers.zero (record { accepted = call.accepted; each = shown.laid.each; limited = w.replay.limited call; room = w.room })).1 shown.laid in
    (written, (w.write.right written).fair)
