-- What the calls of a network of gates give, over its parts.
use Rattle.std.proofs.Common.{◌≡◌, ℕ, ◌<◌, ◌≤◌, Bool, true, false, List, [], ◌∷◌, ◌++◌, length, get_or, ltb, Ok, Err, Result, sym, refl, ap, ◌∙◌, subst, ap₂, inl, inr, arith, MatchResult}
use Rattle.std.specs.List.{slice_get}
use Rattle.std.specs.Option.{ok_or}
use Rattle.std.proofs.lemmas.Option.{slice_get-get_or, slice_get_past}
use Rattle.std.proofs.lemmas.Bool.{cases_lt, lt-ltb, le-ltb, and_parts, and_from}
use Rattle.tables.specs.declared.Variable.{Variable}
use Rattle.tables.specs.declared.Variable.TheVariants.{V0, V1, V2, V3}
use Rattle.tables.specs.PerVariable.{at}
use Rattle.lists.specs.declared.fixed_list.FixedList.{FixedList}
use Rattle.lists.specs.declared.Full.{Full}
use Rattle.lists.specs.Lists.{listed}
use Rattle.classes.specs.Owned.{owns}
use Rattle.netlists.specs.declared.Node.{Node}
use Rattle.netlists.specs.declared.Signal.{Signal}
use Rattle.tables.specs.declared.per_variable.PerVariable.{PerVariable}
use Rattle.netlists.specs.declared.Form.{Form}
use Rattle.netlists.specs.declared.Refusal.{Refusal}
use Rattle.netlists.specs.declared.Refusal.TheVariants.{NoSuchRow, NoSuchOutput, TooManyOutputs}
use Rattle.netlists.specs.Netlists.{Netlist}
use Rattle.netlists.specs.Normal.{normal}
use Rattle.netlists.specs.Placing.{Placing, no_row, no_signal, is_there, all_there, row_node, signal_of, empty, after_start, after_place, after_output, row_asked, output_asked}
use Rattle.netlists.specs.Lawful.{Lawful}
use Rattle.netlists.proofs.Ways.{taken, passed, start_few, place_owned, output_few, output_many}
use Rattle.netlists.proofs.Places.{empty_lawful, place_placed, output_lawful}
use Rattle.networks.specs.Calls.{Answers}
use Rattle.codings.specs.declared.coding.Coding.{Ghosts}
use Rattle.stores.specs.declared.store.Store.{Store}
use Rattle.stores.specs.Stores.{rows_of}
use Rattle.stores.proofs.Stores.{places_few}
use Rattle.gates.specs.Keeping.{RowKept, RowRefused}
use Rattle.gates.specs.Parts.{netlist_in, LawfulIn}

-- ---- what is asked for by its number

asked : {A : Type 0} (xs : List A) (k : ℕ) (d : A) (e : Refusal) → ok_or (slice_get xs k) e ≡ elim (ltb k (length xs)) [ true ↦ Ok (get_or xs k d) | false ↦ Err e ]
asked {A} xs k d e =
    elim (cases_lt k (length xs)) [
      | inl h ↦ ap (λ o. ok_or o e) (slice_get-get_or xs k d h) ∙ sym (taken {A = Result A Refusal} (ltb k (length xs)) _ _ (lt-ltb k (length xs) h))
      | inr h ↦ ap (λ o. ok_or o e) (slice_get_past xs k h) ∙ sym (passed {A = Result A Refusal} (ltb k (length xs)) _ _ (le-ltb k (length xs) h))
    ]

pub row_by_number : (n : Netlist) (k : ℕ) → row_asked n k ≡ ok_or (slice_get n.rows k) NoSuchRow
unfolding row_asked
row_by_number n k = sym (asked n.rows k no_row NoSuchRow)

pub output_by_number : (n : Netlist) (k : ℕ) → output_asked n k ≡ ok_or (slice_get n.outputs k) NoSuchOutput
unfolding output_asked
output_by_number n k = sym (asked n.outputs k no_signal NoSuchOutput)

-- a refusal that is due
pub refused : {A B : Type 0} (due : Result A Refusal) (r : Result B Refusal) (e : Refusal) (state : B → A) (Same : Type 0) → r ≡ Err e → due ≡ Err e → Same → Answers due r state Same
refused due r e state Same er ed same = subst (λ x. Answers due x state Same) (sym er) (ed, same)

-- ---- the nodes of four signals

module _ (n : Netlist) (s : PerVariable Signal) where
  all_parts : all_there n s ≡ true → (v : Variable) → is_there n (at s v).node ≡ true
  all_parts e v =
      let p = and_parts _ (is_there n s.d.node) e in
      let q = and_parts _ (is_there n s.c.node) p.0 in
      let t = and_parts (is_there n s.a.node) (is_there n s.b.node) q.0 in
      by v t.0 t.1 q.1 p.1
    where
      by : (v : Variable) → is_there n s.a.node ≡ true → is_there n s.b.node ≡ true → is_there n s.c.node ≡ true → is_there n s.d.node ≡ true → is_there n (at s v).node ≡ true
      by V0 a b c d = a
      by V1 a b c d = b
      by V2 a b c d = c
      by V3 a b c d = d

  all_from : ((v : Variable) → is_there n (at s v).node ≡ true) → all_there n s ≡ true
  all_from h = and_from _ (is_there n s.d.node) (and_from _ (is_there n s.c.node) (and_from (is_there n s.a.node) (is_there n s.b.node) (h V0) (h V1)) (h V2)) (h V3)

  pub all_by : (b : Bool) → (b ≡ true → (v : Variable) → true ≡ is_there n (at s v).node) × (b ≡ false → (v : Variable) × (false ≡ is_there n (at s v).node)) → b ≡ all_there n s
  all_by true h = sym (all_from (λ v. sym (h.0 refl v)))
  all_by false h = let w = h.1 refl in by (all_there n s) refl w.0 w.1
    where
      by : (b : Bool) → all_there n s ≡ b → (v : Variable) → false ≡ is_there n (at s v).node → false ≡ b
      by true e v f = f ∙ all_parts e v
      by false e v f = refl

-- ---- place

-- an answer, by the node and the inversion of its signal
pub by_signal : (a : Result Placing Refusal) (n : Netlist) (y : Node) (b : Bool) (x : Signal) → a ≡ Ok (record { signal = signal_of y b; netlist = n })
    → x.node ≡ y → x.inverted ≡ b → a ≡ Ok (record { signal = x; netlist = n })
by_signal a n y b x e p q =
    let s : signal_of y b ≡ x = ap₂ signal_of (sym p) (sym q) in
    e ∙ ap (λ (z : Signal). Ok (record { signal = z; netlist = n })) s

pub by_number : (x y : Node) → x.number ≡ y.number → x ≡ y
by_number x y e = let node : ℕ → Node = λ k. record { number = k } in ap node e

-- a signal joins the others where there is room
abbrev Added : {most : ℕ} → FixedList Signal most → FixedList Signal most → Signal → Result (Unit {0}) Full → Type 0
Added {most} o p x a = MatchResult a (λ _. (length (listed o) < most) × (listed p ≡ listed o ++ x ∷ [])) (λ _. (length (listed o) ≡ most) × (p ≡ o))

module _ {C : Type 0} {W : ℕ} {c : Ghosts C W} {most : ℕ} where
  -- ---- start

  is_empty : (s : Store C W c) (o : FixedList Signal most) (i : ℕ) → rows_of s ≡ [] → listed o ≡ [] → netlist_in s i o ≡ empty i
  is_empty s o i er eo = cc

  pub new_lawful : (s : Store C W c) (o : FixedList Signal most) (i : ℕ) → i ≤ 32 → rows_of s ≡ [] → listed o ≡ [] → LawfulIn s i o
  new_lawful s o i h er eo = subst (λ (n : Netlist). Lawful c.ownership s.places n) (sym (is_empty s o i er eo)) (empty_lawful c.ownership s.places i (places_few s) h)

  pub started : (s : Store C W c) (o : FixedList Signal most) (i : ℕ) → i ≤ 32 → rows_of s ≡ [] → listed o ≡ [] → after_start i ≡ Ok (netlist_in s i o)
  started s o i h er eo = start_few i h ∙ ap Ok (sym (is_empty s o i er eo))

  -- ---- output

  module _ (s : Store C W c) (i : ℕ) (o p : FixedList Signal most) (x : Signal) (there : is_there (netlist_in s i o) x.node ≡ true) (m : most ≡ 32) where
    pub added : (length (listed o) < most) × (listed p ≡ listed o ++ x ∷ []) → after_output (netlist_in s i o) x ≡ Ok (netlist_in s i p)
    added a =
        let l = a.0 in
        let b = output_few (netlist_in s i o) x there (omega arith) in
        let e = a.1 in
        cc

    pub over : length (listed o) ≡ most → after_output (netlist_in s i o) x ≡ Err TooManyOutputs
    over e = output_many (netlist_in s i o) x there (omega arith)

    pub output_still : LawfulIn s i o → (a : Result (Unit {0}) Full) → Added o p x a → LawfulIn s i p
    output_still law (Ok u) a = output_lawful c.ownership s.places (netlist_in s i o) x (netlist_in s i p) law (added a)
    output_still law (Err f) a = subst (λ (q : FixedList Signal most). LawfulIn s i q) (sym a.1) law

    -- where `Full` is answered as a refusal
    pub output_answer : (a : Result (Unit {0}) Full) (b : Result (Unit {0}) Refusal) (Same : Type 0) → (p ≡ o → Same) → Added o p x a
        → MatchResult a (λ u. b ≡ Ok u) (λ _. b ≡ Err TooManyOutputs)
        → MatchResult b (λ _. after_output (netlist_in s i o) x ≡ Ok (netlist_in s i p)) (λ e. (after_output (netlist_in s i o) x ≡ Err e) × Same)
    output_answer (Ok u) b Same f a e =
        subst (λ (z : Result (Unit {0}) Refusal). MatchResult z (λ _. after_output (netlist_in s i o) x ≡ Ok (netlist_in s i p)) (λ r. (after_output (netlist_in s i o) x ≡ Err r) × Same)) (sym e) (added a)
    output_answer (Err g) b Same f a e =
        subst (λ (z : Result (Unit {0}) Refusal). MatchResult z (λ _. after_output (netlist_in s i o) x ≡ Ok (netlist_in s i p)) (λ r. (after_output (netlist_in s i o) x ≡ Err r) × Same)) (sym e) (over a.0, f a.1)

  -- ---- place

  module _ (s t : Store C W c) (i : ℕ) (o : FixedList Signal most) (f : ℕ) (w : PerVariable Signal) (g : Form) (form : g ≡ normal f w) (all : all_there (netlist_in s i o) w ≡ true)
      (two : g.row.nodes.b.number ≡ 0 → ⊥) (own : owns c.ownership g.row.table ≡ true) where
    pub place_kept : (k : ℕ) → RowKept s t g.row k
        → after_place c.ownership s.places (netlist_in s i o) f w ≡ Ok (record { signal = signal_of (row_node (netlist_in s i o) k) g.inverted; netlist = netlist_in t i o })
    place_kept k r = place_owned c.ownership s.places (netlist_in s i o) f w g form all two own ∙ r.placing i (listed o) g.inverted

    pub place_refused : (e : Refusal) → RowRefused s t g.row e → after_place c.ownership s.places (netlist_in s i o) f w ≡ Err e
    place_refused e r = place_owned c.ownership s.places (netlist_in s i o) f w g form all two own ∙ r.refused i (listed o) g.inverted

    pub place_still : LawfulIn s i o → f < 65536 → (r : Result ℕ Refusal) → MatchResult r (λ k. RowKept s t g.row k) (λ e. RowRefused s t g.row e) → LawfulIn t i o
    place_still law small (Ok k) r =
        let p = place_placed c.ownership s.places (netlist_in s i o) f w _ law small (place_kept k r) in
        subst (λ (m : ℕ). Lawful c.ownership m (netlist_in t i o)) (sym r.kept.places) p.lawful
    place_still law small (Err e) r = subst (λ (q : Store C W c). LawfulIn q i o) (sym r.same) law
