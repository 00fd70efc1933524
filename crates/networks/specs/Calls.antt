-- What a call of a network answers.
use Rattle.std.specs.Prelude.{◌≡◌, Ok, Err, Result, MatchResult}
use Rattle.netlists.specs.declared.Refusal.{Refusal}

-- a call answers r as is due: it is accepted, and stands at the state that is due, or it gives the refusal that is due,
-- with nothing changed
abbrev pub Answers : {A B : Type 0} → Result A Refusal → Result B Refusal → (B → A) → Type 0 → Type 0
Answers due r state unchanged = MatchResult r (λ x. due ≡ Ok (state x)) (λ e. (due ≡ Err e) × unchanged)

-- what is refused is as it was, said of a part and so of what holds it
pub refused_as : {A : Type 0} (r : Result A Refusal) (P : A → Type 0) (Q : Refusal → Type 0) (D E : Type 0) → (D → E) → MatchResult r P (λ e. Q e × D) → MatchResult r P (λ e. Q e × E)
refused_as (Ok x) P Q D E f h = h
refused_as (Err e) P Q D E f h = (h.0, f h.1)
