use Rattle.std.proofs.Common.{◌≡◌, ◌∙◌, rules}
use Rattle.std.proofs.lemmas.Iterator.{IsFirst-from_position, YieldsList-from_slice}
use borrow.Author.Tests.{tests}
use Rattle.stores.proofs.Stores.{found}
use Rattle.stores.proofs.store.Store.find.Goals as goal

pub returns : goal.returns
returns g c =
    found c.args.self.now c.position.result c.args.row g.met.C.Coding.lawful c.requires
    (IsFirst-from_position _ _ _ (λ b. b ≡ g.C.Coding.coder.encode c.args.row) (λ b. b ≡ g.C.Coding.coder.encode c.args.row → ⊥) c.position.ensures.ran (YieldsList-from_slice _ (c.iter.ensures.rest ∙ c.blocks-2.ensures)) (λ x q k. search (rules, tests)) (λ x q k. search (rules, tests)))
