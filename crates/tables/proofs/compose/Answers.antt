use Rattle.std.proofs.Common.{◌≡◌, ℕ, ap, ◌∙◌, rules, arith}
use Rattle.tables.specs.Bits.{bit}
use Rattle.tables.specs.Tables.{value, constant}
use Rattle.tables.proofs.Calls.{from_fn_at}
use Rattle.tables.proofs.Laws.{value-neighbours, value-constant, neighbour_lt, composed_code}
use Rattle.tables.proofs.compose.Goals as goal

pub returns : goal.returns
returns c =
    let i = c.args.inputs in
    composed_code c.args.f i.a i.b i.c i.d c.choose.result c.choose.type_inv (λ x.
    let d = neighbour_lt 0 1 (value i.d x) (omega arith) in
    let e = neighbour_lt _ 2 (value i.c x) d in
    let f = neighbour_lt _ 4 (value i.b x) e in
    let g = neighbour_lt _ 8 (value i.a x) f in
    value-neighbours i.d c.choose.result 0 c.choose_each-halves.result x c.choose.ensures
    ∙ c.choose_each-halves.ensures x _ d ∙ c.choose_each-quarters.ensures x _ e ∙ c.choose_each-eighths.ensures x _ f
    ∙ ap (λ (t : ℕ). value t x) (from_fn_at (λ k t. t ≡ constant (bit c.args.f k)) c.from_fn-sixteenths.ensures.items (λ k t q b. search rules) _ 0 g) ∙ value-constant _ x)
