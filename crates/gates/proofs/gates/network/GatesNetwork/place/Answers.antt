use Rattle.std.proofs.Common.{◌≡◌, ◌+◌, ◌<◌, true, Err, sym, refl, ◌∙◌, rules, arith}
use Rattle.std.proofs.lemmas.Bool.{eqb-true, eqb-false}
use Rattle.classes.specs.Owned.{owns}
use Rattle.netlists.specs.Placing.{row_node}
use Rattle.netlists.proofs.Ways.{place_missing, place_lone, place_unowned}
use Rattle.stores.proofs.Stores.{rows_most, places_few}
use Rattle.gates.specs.Parts.{netlist_in}
use Rattle.gates.specs.Gates.{netlist_of, places_of}
use Rattle.gates.specs.Laws.{gates_lawful, gates_same}
use Rattle.gates.proofs.Rows.{owned_is, can_keep}
use Rattle.gates.proofs.Calls.{place_kept, place_refused, place_still, refused, by_signal, by_number}
use Rattle.gates.proofs.gates.network.GatesNetwork.place.Given as given
use Rattle.gates.proofs.gates.network.GatesNetwork.place.Goals as goal
use Rattle.gates.proofs.gates.network.GatesNetwork.place.Goals.{Else-not-owns_normal, In_ok-k}

-- the coding owns the class of the row's table
is_owned : (g : given.Over) (c : goal.Else-not-owns_normal g) → owns g.C.Coding.ownership c.normal_form-form.result.row.table ≡ true
is_owned g c = owned_is _ _ _ _ _ _ c.ownership.ensures c.normal_form-form.ensures.means (eqb-false _ 0 (sym c.if-eq.ensures)) c.if-not-owns_normal.ensures.owned

-- the row's node has a number of 16 bits
is_near : (g : given.Over) (c : goal.In_ok-k g) → c.args.self.now.inputs + 1 + c.in_ok-k.k < 1024
is_near g c =
    let l = gates_lawful c.args.self.now in
    let m = rows_most c.keep_row.new.store in
    let p = places_few c.keep_row.new.store in
    let n = c.in_ok-k.ensures.inside in
    omega arith

pub returns-then-not-has_all-clause-answer : goal.returns-then-not-has_all-clause-answer
returns-then-not-has_all-clause-answer g c =
    (place_missing g.C.Coding.ownership (places_of c.args.self.now) (netlist_of c.args.self.now) c.args.table c.args.fanins _ refl (sym c.if-not-has_all.ensures), refl)

pub returns-then-eq-clause-answer : goal.returns-then-eq-clause-answer
returns-then-eq-clause-answer g c =
    let p = place_lone g.C.Coding.ownership (places_of c.args.self.now) (netlist_of c.args.self.now) c.args.table c.args.fanins c.normal_form-form.result c.normal_form-form.ensures.is
    (sym c.if-not-has_all.ensures) (eqb-true _ 0 (sym c.if-eq.ensures)) in
    by_signal _ (netlist_of c.args.self.now) c.normal_form-form.result.row.nodes.a c.normal_form-form.result.inverted c.signal.result p c.signal.ensures.node c.signal.ensures.inverted

pub returns-then-not-owns_normal-clause-answer : goal.returns-then-not-owns_normal-clause-answer
returns-then-not-owns_normal-clause-answer g c = (
  place_unowned g.C.Coding.ownership (places_of c.args.self.now) (netlist_of c.args.self.now) c.args.table c.args.fanins c.normal_form-form.result c.normal_form-form.ensures.is
      (sym c.if-not-has_all.ensures) (eqb-false _ 0 (sym c.if-eq.ensures)) (owned_is _ _ _ _ _ _ c.ownership.ensures c.normal_form-form.ensures.means (eqb-false _ 0 (sym c.if-eq.ensures)) c.if-not-owns_normal.ensures.owned),
  refl,
)

pub keep_row-requires : goal.keep_row-requires
keep_row-requires g c =
    let l = gates_lawful c.args.self.now in (
      omega arith,
      g.met.C.Coding.owned_coded c.normal_form-form.result.row
          (can_keep g.C.Coding.ownership (netlist_of c.args.self.now) c.args.table c.args.fanins c.normal_form-form.result l.few_inputs (omega arith) (sym c.if-not-has_all.ensures)
          c.normal_form-form.ensures.is c.normal_form-form.ensures.means (eqb-false _ 0 (sym c.if-eq.ensures)) (is_owned g (goal.at.keep_row-requires g c).Else-not-owns_normal)),
    )

pub invariant_of-self : goal.invariant_of-self
invariant_of-self g c = record {
  lawful = ∣ place_still c.args.self.now.store c.keep_row.new.store c.args.self.now.inputs c.args.self.now.outputs c.args.table c.args.fanins c.normal_form-form.result
      c.normal_form-form.ensures.is (sym c.if-not-has_all.ensures) (eqb-false _ 0 (sym c.if-eq.ensures)) (is_owned g (goal.at.invariant_of-self g c).Else-not-owns_normal)
      (gates_lawful c.args.self.now) (omega arith) c.keep_row.result c.keep_row.ensures ∣₁;
}

pub returns-in_err-k-clause-answer : goal.returns-in_err-k-clause-answer
returns-in_err-k-clause-answer g c =
    let q : c.from_residual.result ≡ Err c.in_err-k.field-0.0 = search rules in
    let p = place_refused c.args.self.now.store c.keep_row.new.store c.args.self.now.inputs c.args.self.now.outputs c.args.table c.args.fanins c.normal_form-form.result
    c.normal_form-form.ensures.is (sym c.if-not-has_all.ensures) (eqb-false _ 0 (sym c.if-eq.ensures)) (is_owned g (goal.at.returns-in_err-k-clause-answer g c).Else-not-owns_normal) c.in_err-k.field-0.0 c.in_err-k.ensures in
    refused _ c.from_residual.result c.in_err-k.field-0.0 _ _ q p (gates_same _ c.args.self.now c.in_err-k.ensures.same refl refl)

pub overflow_add-self : goal.overflow_add-self
overflow_add-self g c = let l = gates_lawful c.args.self.now in omega arith

pub overflow_add-self-2 : goal.overflow_add-self-2
overflow_add-self-2 g c = omega (arith, is_near g (goal.at.overflow_add-self-2 g c).In_ok-k)

pub overflow_cast-self : goal.overflow_cast-self
overflow_cast-self g c = omega (arith, is_near g (goal.at.overflow_cast-self g c).In_ok-k)

pub returns-clause-answer : goal.returns-clause-answer
returns-clause-answer g c =
    let p = place_kept c.args.self.now.store c.keep_row.new.store c.args.self.now.inputs c.args.self.now.outputs c.args.table c.args.fanins c.normal_form-form.result
    c.normal_form-form.ensures.is (sym c.if-not-has_all.ensures) (eqb-false _ 0 (sym c.if-eq.ensures)) (is_owned g (goal.at.returns-clause-answer g c).Else-not-owns_normal) c.in_ok-k.k c.in_ok-k.ensures in
    let n = by_number c.new.result (row_node (netlist_of c.args.self.now) c.in_ok-k.k) c.new.ensures in
    by_signal _ (netlist_in c.keep_row.new.store c.args.self.now.inputs c.args.self.now.outputs) (row_node (netlist_of c.args.self.now) c.in_ok-k.k) c.normal_form-form.result.inverted c.signal-2.result p
    (c.signal-2.ensures.node ∙ n) c.signal-2.ensures.inverted
