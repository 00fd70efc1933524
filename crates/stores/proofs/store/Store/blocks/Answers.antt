use Rattle.std.proofs.Common.{ℕ, ◌/◌, List, length, take, sym, ap, ◌∙◌}
use Rattle.std.specs.Simd.{first_chunks}
use Rattle.stores.proofs.Stores.{blocks_taken, blocks_length}
use Rattle.stores.proofs.store.Store.blocks.Goals as goal

pub returns : goal.returns
returns g c =
    ap (take c.args.count) (c.as_chunks.ensures.front ∙ ap (λ (ws : List ℕ). first_chunks g.row.W (length ws / g.row.W) ws) c.as_slice.ensures.value)
    ∙ blocks_taken c.args.self.now c.args.count c.requires

pub slice_bounds-result-end : goal.slice_bounds-result-end
slice_bounds-result-end g c = sym (ap length (returns g c) ∙ blocks_length c.args.self.now c.args.count)
