-- Laws of the numbers of a layout, and of the header, directory and payloads that are written by them.
use Prim.Native.Nat.{ℕ, zero, suc, ◌+◌, ◌*◌, ◌≤◌, ◌<◌}
use mathlib.Core.Path.{◌≡◌, refl, ◌∙◌}
use mathlib.Core.List.{List, ◌++◌}
use native.Mathlib.Omega.{arith}
use borrow.Author.Tests.{lt-ltb, le-ltb}
use lib.ListN.{length, length-append}
use Rattle.base_format.specs.declared.header.Header.{Header}
use Rattle.base_format.specs.Bytes.{bytes_of_all}
use Rattle.base_format.specs.Header.{header_size}
use Rattle.base_format.specs.Repack.{pcm_fill}
use Rattle.base_format.specs.Written.{header_fields}
use Rattle.base_format.proofs.Fields.{fields_size_lem}
use Rattle.base_master.specs.Result.{pcm_bytes}
use Rattle.repack_put_directory.specs.Directory.{directory_of}
use Rattle.repack_put_directory.proofs.Directory.{directory_none, directory_some}
use Rattle.repack_put_payloads.specs.Payloads.{waves_bytes}
use Rattle.repack_put_payloads.proofs.Payloads.{waves_size}
use Rattle.repack_layout.specs.declared.Layout.{Layout}
use Rattle.repack_layout.specs.Layout.{pcm_pool, new_header, front_of, FrontFits}

pub some_pool : (pcm : ℕ) → (pcm ≡ 0 → ⊥) → pcm_pool pcm ≡ 1
some_pool zero some = absurd (some refl)
some_pool (suc n) some = refl

pub no_pool_lem : (pcm : ℕ) → pcm ≡ 0 → pcm_pool pcm ≡ 0
no_pool_lem pcm none = rw none

pub fills_none : (pcm : ℕ) → pcm ≡ 0 → length (pcm_fill pcm) ≡ 0
fills_none pcm none = rw none

pub fills_full : (pcm : ℕ) → 1048576 ≤ pcm → length (pcm_fill pcm) ≡ 0
fills_full zero h = refl
fills_full (suc n) h = rw (le-ltb (suc n) 1048576 h)

pub fills_some : (pcm : ℕ) → (pcm ≡ 0 → ⊥) → pcm < 1048576 → length (pcm_fill pcm) ≡ 1
fills_some zero some h = absurd (some refl)
fills_some (suc n) some h = rw (lt-ltb (suc n) 1048576 h)

-- the directory has 16 bytes a pool
pub directory_long : (pcm waves start : ℕ) → length (directory_of pcm waves start) ≡ (pcm_pool pcm + waves) * 16
directory_long zero waves start = directory_none 0 waves start refl ∙ omega arith
directory_long (suc n) waves start = directory_some (suc n) waves start (λ e. omega arith) ∙ omega arith

-- what the new header says of itself
pub new_version : (header : Header) (layout : Layout)
    → ((new_header header layout).version ≡ 2)
    × (header_size (new_header header layout).version ≡ 40)
    × ((new_header header layout).frame_start ≡ layout.frames)
unfolding new_header header_size
new_version header layout = (refl, refl, refl)

pub header_long : (header : Header) (layout : Layout) → length (bytes_of_all (header_fields (new_header header layout))) ≡ 40
unfolding new_header header_size
header_long header layout = fields_size_lem (header_fields (new_header header layout))

module _ {file : List ℕ} {header : Header} {pcm waves : ℕ} {layout : Layout} {places buffer : List ℕ} (fits : FrontFits file header pcm waves layout places buffer) where
  pub front_is :
      front_of file header pcm waves layout places
      ≡ bytes_of_all (header_fields (new_header header layout)) ++ (directory_of pcm waves layout.payloads ++ (pcm_bytes file header.initial_count 20 ++ waves_bytes file places 0 waves))
  unfolding front_of
  front_is = refl

  -- it ends where the opening starts
  pub front_size : length (front_of file header pcm waves layout places) ≡ layout.opening
  unfolding front_of
  front_size =
      four_size (bytes_of_all (header_fields (new_header header layout))) (directory_of pcm waves layout.payloads) (pcm_bytes file header.initial_count 20) (waves_bytes file places 0 waves)
      ∙ omega (arith, header_long header layout, directory_long pcm waves layout.payloads, fits.pcm_is, waves_size file places 0 waves, fits.payloads_at, fits.opening_at)
    where
      four_size : (a b c d : List ℕ) → length (a ++ (b ++ (c ++ d))) ≡ length a + (length b + (length c + length d))
      four_size a b c d = simp length-append
