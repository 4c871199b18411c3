-- An entry counts as the same only where its call makes what is expected of bytes 0xA5.
use Rattle.std.proofs.Common.{◌≡◌, ℕ, ◌<◌, Bool, true, false, List, drop, Result, IsTrue, refl, arith, subst}
use Rattle.std.proofs.Math.ListN.{replicate}
use Rattle.std.specs.Fn.{Once}
use Rattle.std.specs.Int.{from_bool}
use denote.Ref.{Bor, MutBor}
use Rattle.base_format.specs.declared.rule.Refusal.{Refusal}
use Rattle.test_vectors.specs.declared.answer.StoredAnswer.{StoredAnswer}
use Rattle.test_vectors.specs.Made.{Makes, MadeOf}
use Rattle.test_vectors.proofs.made.replay_made.Goals as goal

counted : (same : Bool) (n : ℕ) → n ≡ from_bool same → 0 < n → IsTrue same
counted true n e some = refl
counted false n e some = absurd (omega (arith, e))

module _ {F : Type 0} (g : Once F (Bor (List ℕ) × (MutBor (List ℕ) × Unit {0})) (Result ℕ Refusal × (MutBor (List ℕ) × Unit {0}))) (make : F) where
  made_of : (room : ℕ) (stored : StoredAnswer) (before expected : List ℕ)
      → (before ≡ replicate room 0xA5) × (drop stored.value expected ≡ drop stored.value (replicate room 0xA5)) → Makes g make before stored expected → MadeOf g make
  made_of room stored before expected read made =
      record { room = room; stored = stored; expected = expected; makes = subst (λ b. Makes g make b stored expected) read.0 made; as_lent = read.1 }

pub returns-in-Some : goal.returns-in-Some
returns-in-Some g c some =
    let read = rw c.in-Some.is at c.in_ok-read.ensures in
    made_of g.F.FnOnce c.args.make _ c.meant-meant.result _ _ read (c.makes.ensures (counted _ _ c.from-in-Some.ensures.0 some))
