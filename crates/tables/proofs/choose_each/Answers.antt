use Rattle.std.proofs.Common.{rules, ◌≡◌, ◌+◌, ◌*◌}
use Rattle.std.specs.List.{slice_index}
use Rattle.tables.specs.Tables.{chosen}
use Rattle.tables.proofs.Calls.{from_fn_at}
use Rattle.tables.proofs.Laws.{value-neighbours}
use Rattle.tables.proofs.choose_each.Goals as goal

pub returns : goal.returns
returns g c = λ x k h.
    let z = c.args.z in
    let parts = c.args.parts.now in
    value-neighbours z (slice_index c.from_fn.result k) k parts x
    (from_fn_at (λ i y. y ≡ chosen z (slice_index parts (2 * i + 1)) (slice_index parts (2 * i))) c.from_fn.ensures.items (λ i y q b. search rules) k 0 h)
