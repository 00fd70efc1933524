-- What a place call gives, by the way that it goes.
use Rattle.std.proofs.Common.{◌≡◌, ℕ, ◌<◌, ◌≤◌, Bool, true, false, ltb, length, get_or, Ok, Err, sym, refl, ap, ◌∙◌, arith}
use Rattle.std.proofs.lemmas.Bool.{lt-ltb, le-ltb, false≢true, true≢false}
use Rattle.classes.specs.declared.Ownership.{Ownership}
use Rattle.classes.specs.Owned.{owns}
use Rattle.netlists.specs.declared.Signal.{Signal}
use Rattle.netlists.specs.declared.Row.{Row}
use Rattle.tables.specs.declared.per_variable.PerVariable.{PerVariable}
use Rattle.netlists.specs.declared.Form.{Form}
use Rattle.netlists.specs.declared.Refusal.TheVariants.{NoSuchNode, NoSuchRow, NoSuchOutput, TooManyInputs, TooManyOutputs, NotOwned, NoPlace}
use Rattle.netlists.specs.Netlists.{Netlist}
use Rattle.netlists.specs.Normal.{normal}
use Rattle.netlists.specs.Placing.{is_there, all_there, row_node, no_row, no_signal, first_alike, with_row, signal_of, place_row, place_form, after_place, empty, after_start, with_output, after_output, row_asked, output_asked}
use Rattle.netlists.proofs.Alike.{alike_is, alike_none}

-- a choice whose test is known
pub taken : {A : Type 0} (b : Bool) (x y : A) → b ≡ true → elim b [ true ↦ x | false ↦ y ] ≡ x
taken true x y e = refl
taken false x y e = absurd (false≢true e)

pub passed : {A : Type 0} (b : Bool) (x y : A) → b ≡ false → elim b [ true ↦ x | false ↦ y ] ≡ y
passed true x y e = absurd (true≢false e)
passed false x y e = refl

-- ---- rows, in a netlist n with some places

module _ (places : ℕ) (n : Netlist) (r : Row) (i : Bool) where
  pub row_found : (k : ℕ) → k < length n.rows → get_or n.rows k no_row ≡ r → ((j : ℕ) → j < k → get_or n.rows j no_row ≡ r → ⊥)
      → place_row places n r i ≡ Ok (record { signal = signal_of (row_node n k) i; netlist = n })
  unfolding place_row
  row_found k h e first =
      let f = alike_is r n.rows k h e first in
      let l : first_alike r n.rows < length n.rows = omega arith in
      taken (ltb (first_alike r n.rows) (length n.rows)) _ _ (lt-ltb (first_alike r n.rows) (length n.rows) l)
      ∙ ap (λ (j : ℕ). Ok (record { signal = signal_of (row_node n j) i; netlist = n })) f

  module _ (none : (j : ℕ) → j < length n.rows → get_or n.rows j no_row ≡ r → ⊥) where
    new : ltb (first_alike r n.rows) (length n.rows) ≡ false
    new = let f = alike_none r n.rows none in le-ltb (first_alike r n.rows) (length n.rows) (omega arith)

    pub row_added : length n.rows < places → place_row places n r i ≡ Ok (record { signal = signal_of (row_node n (length n.rows)) i; netlist = with_row n r })
    unfolding place_row
    row_added h = let w = new in grind arith

    pub row_full : places ≤ length n.rows → place_row places n r i ≡ Err NoPlace
    unfolding place_row
    row_full h = let w = new in grind arith

-- ---- a table over four signals, whose form is g

module _ (o : Ownership) (places : ℕ) (n : Netlist) (f : ℕ) (s : PerVariable Signal) (g : Form) (form : g ≡ normal f s) where
  pub place_missing : all_there n s ≡ false → after_place o places n f s ≡ Err NoSuchNode
  unfolding after_place
  place_missing e = grind arith

  place_form_lem : all_there n s ≡ true → after_place o places n f s ≡ place_form o places n g
  unfolding after_place
  place_form_lem e = taken (all_there n s) _ _ e ∙ ap (place_form o places n) (sym form)

  pub place_lone : all_there n s ≡ true → g.row.nodes.b.number ≡ 0 → after_place o places n f s ≡ Ok (record { signal = signal_of g.row.nodes.a g.inverted; netlist = n })
  unfolding place_form
  place_lone e z = let t = place_form_lem e in grind arith

  pub place_unowned : all_there n s ≡ true → (g.row.nodes.b.number ≡ 0 → ⊥) → owns o g.row.table ≡ false → after_place o places n f s ≡ Err NotOwned
  unfolding place_form
  place_unowned e z w = let t = place_form_lem e in grind arith

  pub place_owned : all_there n s ≡ true → (g.row.nodes.b.number ≡ 0 → ⊥) → owns o g.row.table ≡ true → after_place o places n f s ≡ place_row places n g.row g.inverted
  unfolding place_form
  place_owned e z w = let t = place_form_lem e in grind arith

-- ---- start, output and the questions

pub start_few : (i : ℕ) → i ≤ 32 → after_start i ≡ Ok (empty i)
unfolding after_start
start_few i h = grind arith

pub start_many : (i : ℕ) → 32 < i → after_start i ≡ Err TooManyInputs
unfolding after_start
start_many i h = grind arith

pub output_missing : (n : Netlist) (s : Signal) → is_there n s.node ≡ false → after_output n s ≡ Err NoSuchNode
unfolding after_output
output_missing n s e = grind arith

pub output_few : (n : Netlist) (s : Signal) → is_there n s.node ≡ true → length n.outputs < 32 → after_output n s ≡ Ok (with_output n s)
unfolding after_output
output_few n s e h = grind arith

pub output_many : (n : Netlist) (s : Signal) → is_there n s.node ≡ true → 32 ≤ length n.outputs → after_output n s ≡ Err TooManyOutputs
unfolding after_output
output_many n s e h = grind arith

pub row_there : (n : Netlist) (k : ℕ) → k < length n.rows → row_asked n k ≡ Ok (get_or n.rows k no_row)
unfolding row_asked
row_there n k h = grind arith

pub row_missing : (n : Netlist) (k : ℕ) → length n.rows ≤ k → row_asked n k ≡ Err NoSuchRow
unfolding row_asked
row_missing n k h = grind arith

pub output_there : (n : Netlist) (k : ℕ) → k < length n.outputs → output_asked n k ≡ Ok (get_or n.outputs k no_signal)
unfolding output_asked
output_there n k h = grind arith

pub output_unknown : (n : Netlist) (k : ℕ) → length n.outputs ≤ k → output_asked n k ≡ Err NoSuchOutput
unfolding output_asked
output_unknown n k h = grind arith
