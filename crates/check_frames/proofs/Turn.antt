-- One turn over the frames: the empty ones, the count of the next one, what is passed quickly of its operations, and the rest of them.
use Rattle.std.proofs.Common.{◌≡◌, ℕ, ◌+◌, ◌-◌, ◌≤◌, ◌<◌, List, length, refl, ap, sym}
use Rattle.std.specs.Prelude.{Bool, true, false, ◌||◌, ltb}
use mathlib.Core.Bool.{or_assoc}
use Rattle.base_format.specs.declared.card.CardTable.{CardTable}
use Rattle.base_format.specs.declared.header.Header.{Header}
use Rattle.base_format.specs.declared.rule.Refusal.{Refusal}
use Rattle.base_format.specs.Bytes.{be}
use Rattle.base_format.specs.Card.{cards_of}
use Rattle.base_format.specs.Checked.{ok, refuse, mapped, ◌>>=◌, ◌>>◌}
use Rattle.base_format.specs.Operation.{Setting, setting_of}
use Rattle.base_format.specs.Rule.{refusal}
use Rattle.check_items.specs.Walk.{walked, walked_with}
use Rattle.check_items.proofs.Steps.{walk_end, walked_with_lem}
use Rattle.check_fast_limits.specs.Limits.{limit_table}
use Rattle.check_fast.specs.declared.run.QuickRun.{QuickRun}
use Rattle.check_fast.specs.Run.{quick_run}
use Rattle.check_fast.proofs.Ran.{quick_ran}
use Rattle.check_frames.specs.declared.empty_frames.FramesLeft.{FramesLeft}
use Rattle.check_frames.specs.Frames.{frames_said}
use Rattle.check_frames.specs.Skipped.{skipped}
use Rattle.check_frames.proofs.Empty.{Skipped, skip}
use Rattle.check_frames.proofs.FrameWalk.{frames_step}

-- a test behind which the code goes on
pub passed : {u : Unit {0}} (number place : ℕ) (test : Bool) → ok u ≡ refuse number place test → test ≡ false
passed number place true e = cc
passed number place false e = refl

-- where a turn starts, and the frames behind the empty ones
module _ (file : List ℕ) (header : Header) (cards : CardTable) (left at : ℕ) (seen : Bool) (some : 0 < left) (next : FramesLeft) (is_next : next ≡ skipped file left at) where
  abbrev setting : Setting
  setting = setting_of file header cards

  behind : Skipped setting file left at seen
  behind = skip setting file left at seen some

  pub one_left : 0 < next.left
  one_left = rw is_next behind.some

  pub no_more : next.left ≤ left
  no_more = rw is_next behind.fewer

  first : frames_said setting file left at seen
      ≡ (refuse 14 next.at (ltb (length file) (next.at + 2))
      >> (walked setting file (length file) (be 2 file next.at) (next.at + 2) >>= λ (frame : ℕ × Bool). frames_said setting file (next.left - 1) frame.0 (seen || frame.1)))
  first = rw (behind.decides, ← is_next) (frames_step setting file next.left next.at seen one_left)

  module _ (cut : Bool) (is_cut : cut ≡ ltb (length file) (next.at + 2)) where
    -- a count that is cut off
    pub count_refused : (r : Refusal) → refusal r ≡ refuse 14 next.at cut → frames_said setting file left at seen ≡ refusal r
    count_refused r e = rw (first, ← is_cut, ← e)

    -- a count that is there, and what is passed quickly
    module _ (there : cut ≡ false) (limits : List (List ℕ)) (known : limits ≡ limit_table header.version (cards_of cards)) (count : ℕ) (is_count : count ≡ be 2 file next.at) (run : QuickRun)
        (is_run : run ≡ quick_run header.version file header.pool_count header.directory_offset limits (length file) count (next.at + 2)) where
      rest : frames_said setting file left at seen
          ≡ (walked_with run.si22 setting file (length file) run.left run.at >>= λ (frame : ℕ × Bool). frames_said setting file (next.left - 1) frame.0 (seen || frame.1))
      rest =
          rw (
            first,
            ← is_cut,
            there,
            ← is_count,
            quick_ran header.version (cards_of cards) header.pool_count header.directory_offset file limits (length file) count (next.at + 2) known,
            ← is_run,
          )

      pub all_quick : run.left ≡ 0 → frames_said setting file left at seen ≡ frames_said setting file (next.left - 1) run.at (seen || run.si22)
      all_quick e = rw (rest, e, walk_end run.si22 setting file (length file) run.at)

      slow : frames_said setting file left at seen
          ≡ (mapped {B = ℕ × Bool} (λ (more : ℕ × Bool). (more.0, run.si22 || more.1)) (walked setting file (length file) run.left run.at)
          >>= λ (frame : ℕ × Bool). frames_said setting file (next.left - 1) frame.0 (seen || frame.1))
      slow = rw (rest, walked_with_lem run.si22 setting file (length file) run.left run.at)

      pub rest_refused : (r : Refusal) → refusal r ≡ walked setting file (length file) run.left run.at → frames_said setting file left at seen ≡ refusal r
      rest_refused r e = rw (slow, ← e)

      pub rest_read : (place : ℕ) (si22 : Bool) → ok (place, si22) ≡ walked setting file (length file) run.left run.at
          → frames_said setting file left at seen ≡ frames_said setting file (next.left - 1) place ((seen || run.si22) || si22)
      rest_read place si22 e = rw (slow, ← e) (ap (frames_said setting file (next.left - 1) place) (sym (or_assoc seen run.si22 si22)))
