-- What the functions of the feed do, case by case: each case meets its contract.
use mathlib.Core.Path.{◌≡◌, refl, sym, ◌∙◌}
use mathlib.Core.Bool.{Bool, true, false, cond}
use mathlib.Core.List.{List, [], ◌∷◌, ◌++◌}
use Prim.Native.Nat.{ℕ, ◌+◌, ◌≤◌, ◌<◌}
use native.Mathlib.Nat.{not-suc-le-zero}
use native.Mathlib.Numerals.{add-one}
use native.Mathlib.Omega.{arith}
use lib.ListN.{length, take, set, length-append, length-set}
use lib.Seq.{length-take-le, take-suc-set}
use borrow.Author.Tests.{eq-eqb, ne_eqb, le-leb, lt-leb}
use Rattle.text.specs.Lines.{line_feed, most_bytes, line, too_long}
use Rattle.text.specs.Feeding.{begun_after, handed_by, handed_at_end, started, begun_in, told_in, ended_of, Ready, Kept, Stepped, FeedEnded}
use Rattle.text.specs.declared.feed.Feed.{Feed}
use Rattle.text.specs.declared.feed.Told.TheVariants.{NoLine, Line, LongLine}

-- A byte after `fill` others: there is room for it, or the line is too long with it.
module _ (buffer : List ℕ) (long : length buffer ≡ most_bytes) (fill byte : ℕ) where
  length-longer : fill ≤ most_bytes → length (take fill buffer ++ (byte ∷ [])) ≡ fill + 1
  length-longer h =
      let t = length-take-le fill buffer (omega arith) in
      let a = length-append (take fill buffer) (byte ∷ []) in
      omega arith

  pub kept_room : fill < most_bytes → Kept buffer (set buffer fill byte) fill byte (record { fill = fill + 1; over = false })
  unfolding begun_in
  kept_room h =
      let n = length-longer (omega arith) in
      record {
        begun =
            rw (
              add-one fill,
              take-suc-set buffer fill byte (omega arith),
              le-leb (length (take fill buffer ++ (byte ∷ []))) most_bytes (omega arith),
            )
            refl;
        ready = record { long = length-set buffer fill byte ∙ long; fits = omega arith };
      }

  pub kept_over : fill ≡ most_bytes → Kept buffer buffer fill byte (record { fill = fill; over = true })
  unfolding begun_in
  kept_over h =
      let n = length-longer (omega arith) in
      record {
        begun = rw (lt-leb (length (take fill buffer ++ (byte ∷ []))) most_bytes (omega arith)) refl;
        ready = record { long = long; fits = omega arith };
      }

-- A byte of the input: a line feed, one more of a line that is too long already, or one that is kept.
module _ {buffer : List ℕ} {feed : Feed} (ready : Ready buffer feed) where
  ended_fits : (n : ℕ) → ended_of feed ≡ Line n → n ≤ most_bytes
  ended_fits n e = at_test feed.over e
    where
      at_test : (t : Bool) → cond t LongLine (Line feed.fill) ≡ Line n → n ≤ most_bytes
      at_test true d = let z : ◌≡◌ {A = ℕ} 0 1 = cc in omega arith
      at_test false d = let same : feed.fill ≡ n = cc in let fits = ready.fits in omega arith

  ended_told : told_in buffer (ended_of feed) ≡ begun_in buffer feed ∷ []
  unfolding told_in begun_in
  ended_told = at_test feed.over
    where
      at_test :
          (t : Bool) →
          told_in buffer (cond t LongLine (Line feed.fill)) ≡ cond t too_long (line (take feed.fill buffer)) ∷ []
      at_test true = refl
      at_test false = refl

  pub ended_step : {byte : ℕ} → byte ≡ line_feed → Stepped buffer buffer feed byte (record { feed = started; told = ended_of feed })
  unfolding begun_after handed_by begun_in
  ended_step {byte} e =
      record {
        begun = rw (eq-eqb byte line_feed e) refl;
        told = rw (eq-eqb byte line_feed e) ended_told;
        ready = record { long = ready.long; fits = omega arith };
        line_fits = ended_fits;
      }

  pub over_step :
      {byte : ℕ} → (byte ≡ line_feed → ⊥) → feed.over ≡ true → Stepped buffer buffer feed byte (record { feed = feed; told = NoLine })
  unfolding begun_after handed_by begun_in told_in
  over_step {byte} other over =
      record {
        begun = rw (ne_eqb byte line_feed other, over) refl;
        told = rw (ne_eqb byte line_feed other) refl;
        ready = ready;
        line_fits = λ n e. let z : ◌≡◌ {A = ℕ} 0 1 = cc in omega arith;
      }

  pub kept_step :
      {after : List ℕ} {byte : ℕ} {next : Feed} → (byte ≡ line_feed → ⊥) → feed.over ≡ false → Kept buffer after feed.fill byte next →
      Stepped buffer after feed byte (record { feed = next; told = NoLine })
  unfolding begun_after handed_by begun_in told_in
  kept_step {byte = byte} other under kept =
      record {
        begun = rw (ne_eqb byte line_feed other, under) kept.begun;
        told = rw (ne_eqb byte line_feed other) refl;
        ready = kept.ready;
        line_fits = λ n e. let z : ◌≡◌ {A = ℕ} 0 1 = cc in omega arith;
      }

-- The end of the input.

line_at_end : (bytes : List ℕ) → 0 < length bytes → handed_at_end (line bytes) ≡ line bytes ∷ []
unfolding handed_at_end
line_at_end [] h = absurd (not-suc-le-zero h)
line_at_end (byte ∷ bytes) h = refl

pub finished_over : {feed : Feed} → feed.over ≡ true → FeedEnded feed LongLine
unfolding told_in begun_in handed_at_end
finished_over over =
    record {
      told = λ buffer long. rw over refl;
      line_fits = λ n e. let z : ◌≡◌ {A = ℕ} 0 1 = cc in omega arith;
    }

pub finished_none : {feed : Feed} → feed.over ≡ false → feed.fill ≡ 0 → FeedEnded feed NoLine
unfolding told_in begun_in handed_at_end
finished_none under none =
    record {
      told = λ buffer long. rw (under, none) refl;
      line_fits = λ n e. let z : ◌≡◌ {A = ℕ} 0 1 = cc in omega arith;
    }

pub finished_some : {feed : Feed} → feed.over ≡ false → (feed.fill ≡ 0 → ⊥) → feed.fill ≤ most_bytes → FeedEnded feed (Line feed.fill)
unfolding told_in begun_in
finished_some {feed} under some fits =
    record {
      told = λ buffer long.
          let t = length-take-le feed.fill buffer (omega arith) in
          rw under (sym (line_at_end (take feed.fill buffer) (omega arith)));
      line_fits = λ n e. let same : feed.fill ≡ n = cc in omega arith;
    }
