-- Laws of checks in a row.
use mathlib.Core.Path.{◌≡◌, refl}
use Rattle.base_format.specs.Checked.{Checked, ok, refused, mapped, ◌>>=◌, ◌>>◌}

module _ {A B C : Type 0} where
  -- the value of a row is that of its last line
  pub mapped_bind : (f : B → C) (a : Checked A) (k : A → Checked B) → mapped f (a >>= k) ≡ (a >>= λ (x : A). mapped f (k x))
  mapped_bind f (ok x) k = refl
  mapped_bind f (refused number place) k = refl

  pub mapped_then : (f : B → C) (a : Checked A) (b : Checked B) → mapped f (a >> b) ≡ (a >> mapped f b)
  mapped_then f (ok x) b = refl
  mapped_then f (refused number place) b = refl

  -- a line's value goes on through a function
  pub bind_mapped : (f : A → B) (a : Checked A) (k : B → Checked C) → (mapped f a >>= k) ≡ (a >>= λ (x : A). k (f x))
  bind_mapped f (ok x) k = refl
  bind_mapped f (refused number place) k = refl

  -- a row in a row is one row
  pub bind_bind : (a : Checked A) (k : A → Checked B) (l : B → Checked C) → ((a >>= k) >>= l) ≡ (a >>= λ (x : A). k x >>= l)
  bind_bind (ok x) k l = refl
  bind_bind (refused number place) k l = refl

  pub then_bind : (a : Checked A) (b : Checked B) (l : B → Checked C) → ((a >> b) >>= l) ≡ (a >> (b >>= l))
  then_bind (ok x) b l = refl
  then_bind (refused number place) b l = refl

  pub bind_then : (a : Checked A) (k : A → Checked B) (c : Checked C) → ((a >>= k) >> c) ≡ (a >>= λ (x : A). k x >> c)
  bind_then (ok x) k c = refl
  bind_then (refused number place) k c = refl

  pub then_then : (a : Checked A) (b : Checked B) (c : Checked C) → ((a >> b) >> c) ≡ (a >> (b >> c))
  then_then (ok x) b c = refl
  then_then (refused number place) b c = refl
