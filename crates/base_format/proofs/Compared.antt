-- What the comparison says: it passes exactly when the sheet's rule holds of two accepted files.
use Prim.Native.Nat.{ℕ}
use mathlib.Core.Bool.{Bool, true, not}
use mathlib.Core.List.{List}
use mathlib.Core.Path.{◌≡◌, refl, sym, ap, ◌∙◌}
use native.Mathlib.Omega.{arith}
use borrow.Author.Tests.{eq-eqb, eqb-true, le-ltb, ltb-false, not-false}
use lib.Dec.{eqb, ltb}
use Rattle.base_format.specs.Checked.{Checked, ok, refused, refuse}
use Rattle.base_format.specs.Compare.{Compared, agreed, in_file, read_version, compared, agree, core_writes, image_of}
use Rattle.base_format.specs.Promises.{Agree, Passes, PassesExactly}
use Rattle.base_format.specs.Stream.{Stream, read}
use Rattle.base_format.specs.Writes.{opening_writes}
use Rattle.base_format.proofs.Checks.{through, passed_test, passed_last, and_true, ok_is}
use Rattle.base_format.proofs.Equal.{same_bool, same_bytes_lem, same_writes_lem, same_count, same_frame, bool_self, bytes_self, writes_self, frames_same}

pub agrees : (s s' : Stream) → agree s s' ≡ true → Agree s s'
unfolding agree
agrees s s' h =
    let a = and_true _ _ h in
    let b = and_true _ _ a.0 in
    let c = and_true _ _ b.0 in
    record {
      repeat = same_bool _ _ c.0;
      count = same_count s.pools s'.pools s.frames s'.frames a.1;
      cores = same_writes_lem _ _ c.1;
      image = same_bytes_lem _ _ b.1;
      frame = λ k. same_frame s.pools s'.pools s.frames s'.frames k a.1;
    }

pub agreeing : (s s' : Stream) → Agree s s' → agree s s' ≡ true
unfolding agree
agreeing s s' a =
    rw (
      a.repeat,
      a.cores,
      a.image,
      bool_self s'.repeat,
      writes_self (core_writes (opening_writes s')),
      bytes_self (image_of s'),
      frames_same s.pools s'.pools s.frames s'.frames a.count a.frame,
    )

pub record InFile {A : Type 0} (first : Checked A) (rest : A → Compared) : Type 0 where
  pub value : A
  pub is : first ≡ ok value
  pub then : rest value ≡ agreed true

in_file_lem : {A : Type 0} (file : ℕ) (first : Checked A) (rest : A → Compared) → in_file file first rest ≡ agreed true → InFile first rest
in_file_lem file (ok a) rest e = record { value = a; is = refl; then = e }
in_file_lem file (refused number place) rest e = absurd (let z : ◌≡◌ {A = ℕ} 0 1 = cc in omega arith)

-- a file of a version
pub version_read : (version : ℕ) (file : List ℕ) (s : Stream) → read_version version file ≡ ok s → (read file ≡ ok s) × (s.version ≡ version)
unfolding read_version
version_read version file s e =
    let a = through (read file) _ e in
    let b = passed_test 21 0 (not (eqb a.value.version version)) a.then in
    let c : a.value ≡ s = ok_is b.1 in
    let v : a.value.version ≡ version = eqb-true _ _ (not-false _ b.0) in
    (a.is ∙ ap ok c, ap (λ (x : Stream). x.version) (sym c) ∙ v)

pub reads_version : (version : ℕ) (file : List ℕ) (s : Stream) → read file ≡ ok s → s.version ≡ version → read_version version file ≡ ok s
unfolding read_version
reads_version version file s reads same = rw (reads, eq-eqb s.version version same)

agreed_is : {a : Bool} → agreed a ≡ agreed true → a ≡ true
agreed_is e = cc

pub passes : (master other : List ℕ) (image image' : ℕ) → compared master other image image' ≡ agreed true → Passes master other image image'
unfolding compared
passes master other image image' e =
    let a = in_file_lem 1 (read_version 1 master) _ e in
    let b = in_file_lem 2 (read_version 2 other) _ a.then in
    let c = in_file_lem 1 (refuse 24 0 (ltb image 1048576)) _ b.then in
    let d = in_file_lem 2 (refuse 24 0 (ltb image' 1048576)) _ c.then in
    let m = version_read 1 master a.value a.is in
    let o = version_read 2 other b.value b.is in
    record {
      s = a.value;
      s' = b.value;
      accepted = m.0;
      accepted' = o.0;
      version = m.1;
      version' = o.1;
      agree = agrees a.value b.value (agreed_is d.then);
      room = ltb-false _ _ (passed_last 24 0 (ltb image 1048576) c.is);
      room' = ltb-false _ _ (passed_last 24 0 (ltb image' 1048576) d.is);
    }

-- THE COMPARISON PASSES EXACTLY WHEN THE SHEET'S RULE HOLDS
pub passes_exactly : PassesExactly
unfolding compared
passes_exactly master other image image' = (passes master other image image', back)
  where
    back : Passes master other image image' → compared master other image image' ≡ agreed true
    back p =
        rw (
          reads_version 1 master p.s p.accepted p.version,
          reads_version 2 other p.s' p.accepted' p.version',
          le-ltb image 1048576 p.room,
          le-ltb image' 1048576 p.room',
          agreeing p.s p.s' p.agree,
        )
