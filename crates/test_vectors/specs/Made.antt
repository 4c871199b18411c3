-- A call that fills lent memory.
use Rattle.std.specs.Prelude.{◌≡◌, ℕ, List, drop, replicate, Result}
use Rattle.std.specs.Fn.{Once}
use denote.Ref.{Bor, MutBor}
use Rattle.base_format.specs.declared.rule.Refusal.{Refusal}
use Rattle.test_vectors.specs.declared.answer.StoredAnswer.{StoredAnswer}
use Rattle.test_vectors.specs.Told.{stored_answer}

module _ {F : Type 0} (g : Once F (Bor (List ℕ) × (MutBor (List ℕ) × Unit {0})) (Result ℕ Refusal × (MutBor (List ℕ) × Unit {0}))) (make : F) where
  -- a call may answer so of a file and lent bytes, and leave others
  pub record Makes (before : List ℕ) (stored : StoredAnswer) (behind : List ℕ) : Type 0 where
    pub file : Bor (List ℕ)
    pub lent : MutBor (List ℕ)
    pub left : MutBor (List ℕ)
    pub answer : Result ℕ Refusal
    pub called : g.post make (file, (lent, tt)) (answer, (left, tt))
    pub lends : lent.now ≡ before
    pub leaves : left.now ≡ behind
    pub tells : stored_answer answer ≡ stored

  -- it may do so of bytes 0xA5, and leave them as they were behind the size that it answers
  pub record MadeOf : Type 0 where
    pub room : ℕ
    pub stored : StoredAnswer
    pub expected : List ℕ
    pub makes : Makes (replicate room 0xA5) stored expected
    pub as_lent : drop stored.value expected ≡ drop stored.value (replicate room 0xA5)
