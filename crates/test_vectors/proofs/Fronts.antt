-- The fronts of memory that is lent, and of what is expected of it.
use Rattle.std.proofs.Common.{◌≡◌, ℕ, ◌+◌, ◌-◌, ◌≤◌, Bool, true, false, List, IsTrue, drop, length, sym, ap, ◌∙◌, arith}
use Rattle.std.proofs.Math.ListN.{take, replicate}
use Rattle.std.specs.Str.{bytes_eq}
use Rattle.std.proofs.lemmas.List.{drop-take, take-replicate, take_rest}
use Rattle.std.proofs.lemmas.Slice.Eq.{bytes_eq-Decides}

-- two memories that `==` finds the same from a place on
equal : (a b : List ℕ) → IsTrue (bytes_eq a b) → a ≡ b
equal a b same = (bytes_eq-Decides a b).0 same

pub equal_behind : (a b : List ℕ) (at : ℕ) → IsTrue (bytes_eq (take (length a - at) (drop at a)) (take (length b - at) (drop at b))) → drop at a ≡ drop at b
equal_behind a b at same = sym (take_rest a at) ∙ equal _ _ same ∙ take_rest b at

-- where they do, so do their fronts that reach behind that place
pub fronts : (most room made : ℕ) (bytes expected : List ℕ) → bytes ≡ replicate most 0xA5 → drop made expected ≡ drop made bytes → room ≤ most → made ≤ room
    → drop made (take room expected) ≡ drop made (replicate room 0xA5)
fronts most room made bytes expected lent same few fit =
    let sum : room ≡ made + (room - made) = omega arith in
    ap (λ (n : ℕ). drop made (take n expected)) sum
    ∙ drop-take made (room - made) expected
    ∙ ap (take (room - made)) same
    ∙ sym (drop-take made (room - made) bytes)
    ∙ ap (λ (n : ℕ). drop made (take n bytes)) (sym sum)
    ∙ ap (λ (b : List ℕ). drop made (take room b)) lent
    ∙ ap (drop made) (take-replicate room most 0xA5 few)

pub front : (most room : ℕ) (bytes : List ℕ) → bytes ≡ replicate most 0xA5 → room ≤ most → take room bytes ≡ replicate room 0xA5
front most room bytes lent few = ap (take room) lent ∙ take-replicate room most 0xA5 few
