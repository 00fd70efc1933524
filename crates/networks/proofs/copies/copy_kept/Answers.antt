use Rattle.std.proofs.Common.{◌≡◌, ℕ, ◌<◌, ◌≤◌, Bool, length, Ok, sym, refl, ap, ap₂, ◌∙◌, arith}
use Rattle.std.proofs.lemmas.List.{drop_all}
use Rattle.netlists.specs.Placing.{empty, after_start}
use Rattle.netlists.specs.Copies.{copy_row, copy_outputs}
use Rattle.netlists.proofs.Ways.{start_few, row_there, output_there}
use Rattle.networks.specs.Copying.{under}
use Rattle.networks.proofs.Copying.{never, err_due, told, begun, fresh_length, row_left, row_refused, row_placed, row_next, row_longer, rows_err, rows_more, rows_end, output_next, outputs_err, outputs_end}
use Rattle.networks.proofs.copies.copy_kept.Goals as goal
use Rattle.networks.proofs.copies.copy_kept.Goals.{then-keep+in_ok-placed, else-keep}

pub returns-in_err-start-clause-copy : goal.returns-in_err-start-clause-copy
returns-in_err-start-clause-copy g c =
    let i = c.input_count-inputs.result in
    let few : i ≤ 32 = omega (arith, (g.met.N.Network.lawful c.args.from.now).few_inputs) in
    never (empty i) c.in_err-start.field-0.0 (after_start i) (start_few i few) c.in_err-start.ensures.answer.0

pub loop-k-init : goal.loop-k-init
loop-k-init g c =
    let n = g.N.Network.netlist c.args.from.now in
    let i = c.input_count-inputs.result in
    let few : i ≤ 32 = omega (arith, (g.met.N.Network.lawful c.args.from.now).few_inputs) in record {
      places_same = c.in_ok-start.ensures.kept;
      whole = λ kept tells. begun _ _ kept n _ i _ few c.input_count-inputs.ensures c.in_ok-start.ensures.answer c.fresh-signals.ensures;
      room = omega (arith, ap length c.fresh-signals.ensures, fresh_length i);
    }

pub returns-in_err-row-clause-copy : goal.returns-in_err-row-clause-copy
returns-in_err-row-clause-copy g c =
    let n = g.N.Network.netlist c.args.from.now in
    let lt : c.loop-k.k < length n.rows = omega arith in
    never _ c.in_err-row.field-0.0 _ (row_there n c.loop-k.k lt) (sym c.in_err-row.ensures)

pub returns-in_err-placed-clause-copy : goal.returns-in_err-placed-clause-copy
returns-in_err-placed-clause-copy g c = λ kept tells.
    let n = g.N.Network.netlist c.args.from.now in
    let law = g.met.N.Network.lawful c.args.from.now in
    let lt : c.loop-k.k < length n.rows = omega arith in
    let here : c.len.result < 577 = omega (arith, c.loop-k.invariant.room, law.few_inputs, law.room, law.few_places) in
    let kept_here = told _ kept _ _ _ tells here c.len.ensures c.keep.ensures in
    err_due _ c.from_residual-in_err-placed.result _ c.in_err-placed.field-0.0 c.from_residual-in_err-placed.ensures.1
    (rows_err _ _ _ kept c.in_ok-row.row _ _ _ (copy_outputs n.outputs) _ c.loop-k.invariant.places_same (row_next n c.loop-k.k c.in_ok-row.row lt (sym c.in_ok-row.ensures)) (c.loop-k.invariant.whole kept tells)
    _ (row_refused _ _ kept c.in_ok-row.row _ c.loop-k.signals c.fanins.result _ (kept_here ∙ c.if-keep.true) c.fanins.ensures c.in_err-placed.ensures.answer.0))

pub loop-k-preserved : goal.loop-k-preserved
loop-k-preserved g c =
    let N = g.N.Network in
    let n = N.netlist c.args.from.now in
    let law = g.met.N.Network.lawful c.args.from.now in
    let lt : c.loop-k.k < length n.rows = omega arith in
    let here : c.len.result < 577 = omega (arith, c.loop-k.invariant.room, law.few_inputs, law.room, law.few_places) in
    let row = c.in_ok-row.row in
    let ss = c.loop-k.signals in
    let before = under (N.netlist c.loop-k.to) ss in
    let after = under (N.netlist c.if-keep.to) c.push.new.self in
    let same = λ (m : ℕ). c.keep.result in
    let stays : N.places c.if-keep.to ≡ N.places c.loop-k.to = elim c.if-keep.branch [
      | then-keep+in_ok-placed w ↦ ap N.places w.to-is ∙ w.in_ok-placed.ensures.kept
      | else-keep w ↦ ap N.places w.to-is
    ] in
    let step : (kept : ℕ → Bool) → kept (length ss) ≡ c.keep.result → copy_row N.ownership (N.places c.loop-k.to) kept row before ≡ Ok after = λ kept h. elim c.if-keep.branch [
      | then-keep+in_ok-placed w ↦
          row_placed _ _ kept row _ ss w.fanins.result c.if-keep.placed (N.netlist c.if-keep.to) c.push.new.self (h ∙ w.if-keep.true) w.fanins.ensures
          (w.in_ok-placed.ensures.answer ∙ ap₂ (λ s t. Ok (record { signal = s; netlist = N.netlist t })) (sym w.placed-is) (sym w.to-is)) c.push.ensures
      | else-keep w ↦
          row_left _ _ kept row (N.netlist c.loop-k.to) ss c.if-keep.placed c.push.new.self (h ∙ w.if-keep.false) (w.placed-is ∙ w.plain-placed.ensures) c.push.ensures
          ∙ ap (λ t. Ok (under (N.netlist t) c.push.new.self)) (sym w.to-is)
    ] in record {
      places_same = stays ∙ c.loop-k.invariant.places_same;
      whole = λ kept tells.
          rows_more _ _ _ kept row _ _ before (copy_outputs n.outputs) _ c.loop-k.invariant.places_same (row_next n c.loop-k.k row lt (sym c.in_ok-row.ensures)) (c.loop-k.invariant.whole kept tells)
          after (step kept (told _ kept _ _ _ tells here c.len.ensures c.keep.ensures));
      room = omega (arith, row_longer _ _ same row before after (step same refl), c.loop-k.invariant.room);
    }

pub loop-j-init : goal.loop-j-init
loop-j-init g c =
    let n = g.N.Network.netlist c.args.from.now in
    let all : length n.rows ≤ c.loop-k.k = omega arith in
    record {
      places_same = c.loop-k.invariant.places_same;
      whole = λ kept tells. rows_end _ _ kept _ _ (copy_outputs n.outputs) _ (drop_all c.loop-k.k n.rows all) (c.loop-k.invariant.whole kept tells);
    }

pub returns-in_err-signal-clause-copy : goal.returns-in_err-signal-clause-copy
returns-in_err-signal-clause-copy g c =
    let n = g.N.Network.netlist c.args.from.now in
    let lt : c.loop-j.j < length n.outputs = omega arith in
    never _ c.in_err-signal.field-0.0 _ (output_there n c.loop-j.j lt) (sym c.in_err-signal.ensures)

pub returns-in_err-output-clause-copy : goal.returns-in_err-output-clause-copy
returns-in_err-output-clause-copy g c = λ kept tells.
    let n = g.N.Network.netlist c.args.from.now in
    let lt : c.loop-j.j < length n.outputs = omega arith in
    err_due _ c.from_residual-in_err-output.result _ c.in_err-output.field-0.0 c.from_residual-in_err-output.ensures.1
    (outputs_err c.in_ok-signal.signal c.through.result _ _ _ c.loop-k.signals _ (output_next n c.loop-j.j c.in_ok-signal.signal lt (sym c.in_ok-signal.ensures)) c.through.ensures (c.loop-j.invariant.whole kept tells)
    _ c.in_err-output.ensures.answer.0)

pub returns-clause-copy : goal.returns-clause-copy
returns-clause-copy g c = λ kept tells.
    let n = g.N.Network.netlist c.args.from.now in
    let all : length n.outputs ≤ c.loop-j.j = omega arith in
    outputs_end _ _ c.loop-k.signals _ (drop_all c.loop-j.j n.outputs all) (c.loop-j.invariant.whole kept tells)
