-- Calls on lists, and what they do to the book: a list is the picture of the state that it holds, so what a call does to a state in order
-- (BookCalls.antt) it does to a list. Takes hand out the first live pair each time, as long as there is one.
use mathlib.Core.Path.{◌≡◌, refl, sym, ◌∙◌, ap, ap₂}
use mathlib.Core.Bool.{Bool, true, false}
use mathlib.Core.List.{List, [], ◌∷◌, cons≢nil}
use mathlib.Core.Logic.{◌↔◌}
use Prim.Native.Nat.{ℕ, zero, suc}
use native.Mathlib.Decide.{ℕ_discrete}
use native.Mathlib.Omega.{arith}
use lib.Dec.{eqb}
use lib.ListN.{length, take}
use Rattle.settings.specs.Numbers.{in_range, length_of}
use Rattle.meaning.specs.Row.{Node}
use Rattle.meaning.specs.State.{State, key_of, position_key}
use Rattle.meaning.specs.Picture.{picture}
use Rattle.meaning.specs.Reading.{read, settings_at, is_list}
use Rattle.answers.specs.Refusals.{Outcome, accepted, refused}
use Rattle.answers.specs.declared.Refusal.TheVariants.{NothingLive}
use Rattle.meaning.specs.Operations.{fresh, set_up_out, dead_front, from_live, dead_node, keys_above, keys_passed, taken, take_out, operation_out}
use Rattle.answers.specs.declared.Operation.{Operation}
use Rattle.book.specs.Book.{Book, fresh_book, operation_book}
use Rattle.calls.specs.Calls.{Made, made_on, after_calls}
use Rattle.files.specs.Files.{Pair}
use Rattle.calls.specs.Pairs.{pair, live_pairs}
use Rattle.calls.specs.Effects.{effect, keeps_settings, keeps_pairs}
use Rattle.calls.specs.Book.{book_of, booked_all, without_search, call_without_search, reply_to}
use Rattle.calls.specs.Promises.{ListsStayLists, CallsKeepLists, CallsKeepSettings, takes, TakesInTurn, TakesEnd, CallsAreBooked}
use Rattle.calls.specs.Promises.{AnswersAreBooked}
use Rattle.meaning.proofs.Pictures.State.{Sound}
use Rattle.meaning.proofs.Pictures.Picture.{picture_largest, picture_cells}
use Rattle.meaning.proofs.Pictures.ReadBack.{read_of_picture, picture_is_list}
use Rattle.meaning.proofs.Kept.KeepsState.{dead_front-dead, live_split}
use Rattle.meaning.proofs.Kept.KeepsSetUp.{fresh_sound}
use Rattle.meaning.proofs.Kept.KeepsTake.{taken_sound}
use Rattle.meaning.proofs.Outcomes.{on_lists, set_up_outcome_out_of_range, set_up_outcome_wrong_length, set_up_outcome, take_outcome_none, take_outcome_first}
use Rattle.calls.proofs.Booked.BookRow.{standing_in, changed_alone, pairs_in, pairs_dead, pairs_past, pairs_empty, pairs_first}
use Rattle.calls.proofs.Booked.BookOperations.{book_in, state_booked}
use Rattle.calls.proofs.Booked.BookCalls.{call_booked}
use Rattle.calls.proofs.Booked.BookPairs.{pairs_among, pairs_among_lem, pairs_kept_by}

-- Lists stay lists

picture_settings : (s : State) → Sound s → settings_at (picture s) ≡ s.settings
unfolding read
picture_settings s v = ap (λ (t : State). t.settings) (read_of_picture s v)

pub calls_keep_lists : CallsKeepLists
calls_keep_lists made =
    on_lists (λ ws. is_list (made_on made ws).left.words ≡ true) (λ s v.
    let r = call_booked made s v in
    ap is_list r.left ∙ picture_is_list r.after r.sound)

pub calls_keep_settings : CallsKeepSettings
calls_keep_settings made ws list =
    on_lists (λ us. keeps_settings (effect made (length us)) ≡ true → settings_at (made_on made us).left.words ≡ settings_at us) (λ s v keeps.
    let r = call_booked made s v in
    ap settings_at r.left ∙ (picture_settings r.after r.sound ∙ (r.settings keeps ∙ sym (picture_settings s v))))
    ws list

calls_after_keep : (calls : List Made) (ws : List ℕ) → is_list ws ≡ true → is_list (after_calls calls ws) ≡ true
unfolding after_calls
calls_after_keep [] ws e = e
calls_after_keep (made ∷ calls) ws e = calls_after_keep calls (made_on made ws).left.words (calls_keep_lists made ws e)

-- The book

pub book_of_picture : (s : State) → Sound s → book_of (picture s) ≡ book_in s
book_of_picture s v =
    λ i. record {
      largest = picture_largest s i;
      cells = picture_cells s i;
      row = standing_in (read_of_picture s v i).row;
      position = position_key (read_of_picture s v i);
    }

-- The five operations on a list and on its book: what is left, and what is answered but for looked and the links moved.
pub operation_booked : (operation : Operation) (ws : List ℕ) → is_list ws ≡ true →
    (book_of (operation_out operation ws).left ≡ (operation_book operation (book_of ws)).left)
    × (without_search operation (operation_out operation ws).answered ≡ (operation_book operation (book_of ws)).answered)
operation_booked operation =
    on_lists
    (λ ws. (book_of (operation_out operation ws).left ≡ (operation_book operation (book_of ws)).left)
    × (without_search operation (operation_out operation ws).answered ≡ (operation_book operation (book_of ws)).answered))
    (λ s v.
    let r = state_booked operation s v in
    let same = sym (book_of_picture s v) in (
      ap book_of r.left ∙ book_of_picture r.after r.sound ∙ r.book ∙ ap (λ k. (operation_book operation k).left) same,
      r.answered ∙ ap (λ k. (operation_book operation k).answered) same,
    ))

calls_booked : (calls : List Made) (s : State) → Sound s → book_of (after_calls calls (picture s)) ≡ booked_all calls (length (picture s)) (book_in s)
unfolding after_calls booked_all
calls_booked [] s v = book_of_picture s v
calls_booked (made ∷ calls) s v =
    let r = call_booked made s v in
    ap (λ ws. book_of (after_calls calls ws)) r.left
    ∙ calls_booked calls r.after r.sound
    ∙ ap₂ (booked_all calls) r.long r.book

pub calls_are_booked : CallsAreBooked
calls_are_booked calls =
    on_lists (λ ws. book_of (after_calls calls ws) ≡ booked_all calls (length ws) (book_of ws)) (λ s v.
    calls_booked calls s v ∙ ap (booked_all calls (length (picture s))) (sym (book_of_picture s v)))

pub answers_are_booked : AnswersAreBooked
answers_are_booked made =
    on_lists (λ ws. call_without_search made.call (made_on made ws).answered ≡ reply_to made (length ws) (book_of ws)) (λ s v.
    (call_booked made s v).replies ∙ ap (reply_to made (length (picture s))) (sym (book_of_picture s v)))

-- a call that keeps the live pairs
pub pairs_kept : (made : Made) (ws : List ℕ) → is_list ws ≡ true → keeps_pairs (effect made (length ws)) ≡ true → live_pairs (made_on made ws).left.words ≡ live_pairs ws
unfolding after_calls booked_all
pairs_kept made ws list keeps =
    pairs_among_lem (read (made_on made ws).left.words).row
    ∙ ap (λ (k : Book). pairs_among k.row) (calls_are_booked (made ∷ []) ws list)
    ∙ pairs_kept_by (effect made (length ws)) (book_of ws) keeps
    ∙ sym (pairs_among_lem (read ws).row)

-- Takes

live_pairs_lem : (s : State) → Sound s → live_pairs (picture s) ≡ pairs_in s.row
live_pairs_lem s v = ap (λ t. pairs_in t.row) (read_of_picture s v)

-- the pair of the first live node is gone
taken_pairs : (s : State) → Sound s → (x : Node) (later : List Node) → from_live s.row ≡ x ∷ later → pairs_in (taken s x).row ≡ pairs_in later
unfolding taken
taken_pairs s v x later e =
    ap pairs_in (changed_alone s v (dead_front s.row) x later (live_split s.row x later e) dead_node)
    ∙ pairs_past (dead_front s.row) (dead_node x ∷ later) (dead_front-dead s.row)
    ∙ pairs_dead (dead_node x) later refl

-- what a take's outcome makes of the takes from there on
takes_by : (n : ℕ) (ws : List ℕ) (o : Outcome (List ℕ)) → take_out ws ≡ o →
    takes (suc n) ws ≡ elim (eqb o.answered.refusal 0) [
      | true ↦ record { key = o.answered.key; value = o.answered.value } ∷ takes n o.left
      | false ↦ []
    ]
unfolding takes
takes_by n ws o e =
    ap {B = List Pair} (λ p. elim (eqb p.answered.refusal 0) [
      | true ↦ record { key = p.answered.key; value = p.answered.value } ∷ takes n
          p.left
      | false ↦ []
    ]) e

pub takes_none : (n : ℕ) (s : State) → Sound s → from_live s.row ≡ [] → takes (suc n) (picture s) ≡ []
takes_none n s v e = takes_by n (picture s) (refused (NothingLive (keys_above (position_key s) s.row)) (picture s)) (take_outcome_none s v e)

pub takes_first : (n : ℕ) (s : State) → Sound s → (x : Node) (later : List Node) → from_live s.row ≡ x ∷ later →
    takes (suc n) (picture s) ≡ pair x ∷ takes n (picture (taken s x))
takes_first n s v x later e =
    takes_by n (picture s) (accepted x.key x.value (keys_passed (position_key s) x.key s.row) (picture (taken s x)))
    (take_outcome_first s v x later e)

takes_pairs : (n : ℕ) (s : State) → Sound s → takes n (picture s) ≡ take n (pairs_in s.row)
unfolding takes
takes_pairs zero s v = refl
takes_pairs (suc n) s v = at (from_live s.row) refl (λ t w. takes_pairs n t w)
  where
    at : (rest : List Node) → from_live s.row ≡ rest → ((t : State) → Sound t → takes n (picture t) ≡ take n (pairs_in t.row)) →
        takes (suc n) (picture s) ≡ take (suc n) (pairs_in s.row)
    at [] e more = takes_none n s v e ∙ sym (ap (take (suc n)) (pairs_empty s.row e))
    at (x ∷ later) e more =
        takes_first n s v x later e
        ∙ ap {B = List Pair} (λ r. pair x ∷ r) (more (taken s x) (taken_sound s x later v e) ∙ ap (take n) (taken_pairs s v x later e))
        ∙ sym (ap (take (suc n)) (pairs_first s.row x later e))

pub takes_in_turn : TakesInTurn
takes_in_turn =
    on_lists (λ ws. (n : ℕ) → takes n ws ≡ take n (live_pairs ws)) (λ s v n. takes_pairs n s v ∙ sym (ap (take n) (live_pairs_lem s v)))

pub takes_end : TakesEnd
takes_end = on_lists (λ ws. ((take_out ws).answered.refusal ≡ 7) ↔ (live_pairs ws ≡ [])) (λ s v. at s v (from_live s.row) refl)
  where
    at : (s : State) → Sound s → (rest : List Node) → from_live s.row ≡ rest → ((take_out (picture s)).answered.refusal ≡ 7) ↔ (live_pairs (picture s) ≡ [])
    at s v [] e = (
      (λ q. live_pairs_lem s v ∙ pairs_empty s.row e),
      (λ q. ap (λ o. o.answered.refusal) (take_outcome_none s v e)),
    )
    at s v (x ∷ later) e = (
      (λ q. absurd (let r = ap (λ o. o.answered.refusal) (take_outcome_first s v x later e) in omega arith)),
      (λ q. absurd (cons≢nil (sym (pairs_first s.row x later e) ∙ sym (live_pairs_lem s v) ∙ q))),
    )

-- From a fresh list on

-- an accepted set up leaves the picture of the fresh state, whatever the words held
set_up_leaves : (D K C : ℕ) (ws : List ℕ) → (set_up_out D K C ws).answered.refusal ≡ 0 →
    Sound (fresh D K C) × ((set_up_out D K C ws).left ≡ picture (fresh D K C))
set_up_leaves D K C ws accepted = at (in_range D K C) refl (ℕ_discrete (length ws) (length_of D C))
  where
    at : (t : Bool) → in_range D K C ≡ t → Dec (length ws ≡ length_of D C) → Sound (fresh D K C) × ((set_up_out D K C ws).left ≡ picture (fresh D K C))
    at false e l = absurd (let r = ap (λ o. o.answered.refusal) (set_up_outcome_out_of_range D K C ws e) in omega arith)
    at true e (no l) = absurd (let r = ap (λ o. o.answered.refusal) (set_up_outcome_wrong_length D K C ws e l) in omega arith)
    at true e (yes l) = (fresh_sound D K C e, ap (λ o. o.left) (set_up_outcome D K C ws e l))

pub set_up_list : (D K C : ℕ) (ws : List ℕ) → (set_up_out D K C ws).answered.refusal ≡ 0 → is_list (set_up_out D K C ws).left ≡ true
set_up_list D K C ws accepted =
    let (sound, left) = set_up_leaves D K C ws accepted in
    ap is_list left ∙ picture_is_list (fresh D K C) sound

pub set_up_booked : (D K C : ℕ) (ws : List ℕ) → (set_up_out D K C ws).answered.refusal ≡ 0 → book_of (set_up_out D K C ws).left ≡ fresh_book K C
unfolding fresh key_of
set_up_booked D K C ws accepted =
    let (sound, left) = set_up_leaves D K C ws accepted in
    ap book_of left ∙ book_of_picture (fresh D K C) sound

pub lists_stay_lists : ListsStayLists
lists_stay_lists ws f =
    ap is_list f.left ∙ calls_after_keep f.calls (set_up_out f.D f.K f.C f.lent).left
    (set_up_list f.D f.K f.C f.lent f.accepted)
