use Rattle.std.proofs.Common.{arith, subst, IfSome, ◌<◌}
use Rattle.quote.proofs.Digits.{fits}
use Rattle.quote.proofs.parse.parse_digits.Goals as goal

pub overflow_mul-value : goal.overflow_mul-value
overflow_mul-value c = let low = fits _ _ _ (omega arith) c.loop-b.invariant in omega (arith, low)

pub overflow_add-value : goal.overflow_add-value
overflow_add-value c =
    let low = fits _ _ _ (omega arith) c.loop-b.invariant in
    let digit = subst (λ o. IfSome o (λ d. d < 16)) c.in_ok-digit.ensures.ok_part c.digit_value.ensures.low in
    omega (arith, low, digit)
