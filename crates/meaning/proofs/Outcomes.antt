-- The outcome of each operation on the picture of a state in order, case by case. The picture is a list and reads as its state, so the
-- tests of an operation are those of the state. And what holds of each end of an operation holds of its outcome, on any words.
use Rattle.std.specs.Prelude.{None, Some, Option}
use mathlib.Core.Path.{◌≡◌, refl, ap, ◌∙◌, subst}
use mathlib.Core.Bool.{Bool, true, false, cond, ◌&&◌}
use mathlib.Core.List.{List, [], ◌∷◌}
use Prim.Native.Nat.{ℕ, zero, suc, ◌≤◌, ◌<◌}
use native.Mathlib.Nat.{lt_of_not-le}
use native.Mathlib.Decide.{dec_le}
use native.Mathlib.Omega.{arith}
use lib.Dec.{eqb, leb}
use lib.ListN.{length}
use borrow.Author.Tests.{eq-eqb, ne_eqb}
use Rattle.settings.specs.Numbers.{in_range, is_key, length_of}
use Rattle.settings.specs.Checked.{checked_of, settings_of}
use Rattle.settings.specs.declared.Settings.{Settings}
use Rattle.settings.proofs.Numbers.{key_in, key_out}
use Rattle.lists.proofs.Tests.{cond_has}
use Rattle.meaning.specs.Row.{Node, place_of, node_at}
use Rattle.meaning.specs.State.{State, position_key, places_of}
use Rattle.meaning.specs.Picture.{picture}
use Rattle.meaning.specs.Reading.{read, is_list, reading_of}
use Rattle.answers.specs.Refusals.{Outcome, accepted}
use Rattle.answers.specs.declared.Refusal.{Refusal}
use Rattle.answers.specs.declared.Refusal.TheVariants.{OutOfRange, WrongLength, NotAList, BadKey, KeyLive, NoFreeCell, NothingLive}
use Rattle.answers.specs.Refusals.{refused, answer, Meets}
use Rattle.answers.specs.declared.Refusal.TheVariants.{KeyNotLive, KeyNotStanding}
use Rattle.answers.specs.declared.Answer.{Answer}
use Rattle.meaning.specs.Operations.{on_list, on_key, looked, fresh, set_up_out, finished, with_row, links_moved, finish_at, finish_out, on_reading, set_up_by}
use Rattle.meaning.specs.Operations.{find_at, find_out, revived, slot_for, added, insert_new, insert_at, insert_out, from_live, keys_above, keys_passed}
use Rattle.meaning.specs.Operations.{taken, take_from, take_out, freed_by, swept, sweep_out}
use Rattle.meaning.specs.Layer.Listed.{Listed}
use Rattle.meaning.proofs.Pictures.State.{Sound}
use Rattle.meaning.proofs.Pictures.ReadBack.{read_of_picture, picture_is_list, list_is_picture, list_sound}

-- What holds of each state in order and its picture holds of each list and the state that it holds.
pub on_read_lists : (P : State → List ℕ → Type 0) → ((s : State) → Sound s → P s (picture s)) → (ws : List ℕ) → is_list ws ≡ true → P (read ws) ws
on_read_lists P f ws e = subst (P (read ws)) (list_is_picture ws e) (f (read ws) (list_sound ws e))

pub on_lists : (P : List ℕ → Type 0) → ((s : State) → Sound s → P (picture s)) → (ws : List ℕ) → is_list ws ≡ true → P ws
on_lists P f ws e = on_read_lists (λ s. P) f ws e

-- Every operation but set up

pub not_on_list : (ws : List ℕ) (act : State → Outcome (List ℕ)) → is_list ws ≡ false → on_list ws act ≡ refused NotAList ws
unfolding on_list reading_of on_reading
not_on_list ws act e = rw e refl

pub on_picture : (s : State) → Sound s → (act : State → Outcome (List ℕ)) → on_list (picture s) act ≡ act s
unfolding on_list reading_of on_reading
on_picture s v act = rw (picture_is_list s v) (ap act (read_of_picture s v))

on_good_key : (ws : List ℕ) (s : State) (key : ℕ) (done : Outcome (List ℕ)) → 1 ≤ key → key ≤ s.settings.largest → on_key ws s key done ≡ done
unfolding on_key
on_good_key ws s key done l h = rw (key_in l h) refl

on_bad_key : (ws : List ℕ) (s : State) (key : ℕ) (done : Outcome (List ℕ)) → (1 ≤ key → s.settings.largest < key) → on_key ws s key done ≡ refused BadKey ws
unfolding on_key
on_bad_key ws s key done f = rw (key_out f) refl

on_picture_key : (s : State) → Sound s → (key : ℕ) (act : State → Outcome (List ℕ)) → 1 ≤ key → key ≤ s.settings.largest →
    on_list (picture s) (λ t. on_key (picture s) t key (act t)) ≡ act s
on_picture_key s v key act l h = on_picture s v (λ t. on_key (picture s) t key (act t)) ∙ on_good_key (picture s) s key (act s) l h

on_picture_bad_key : (s : State) → Sound s → (key : ℕ) (act : State → Outcome (List ℕ)) → (1 ≤ key → s.settings.largest < key) →
    on_list (picture s) (λ t. on_key (picture s) t key (act t)) ≡ refused BadKey (picture s)
on_picture_bad_key s v key act f = on_picture s v (λ t. on_key (picture s) t key (act t)) ∙ on_bad_key (picture s) s key (act s) f

-- .. and so it is on a list, as the code has it
pub bad_key_meets :
    {ws : List ℕ} {s : Settings} → Listed ws s → (key : ℕ) (act : State → Outcome (List ℕ)) {r : Answer} → is_key s.largest key ≡ false →
    r ≡ answer 4 0 0 0 → Meets (on_list ws (λ t. on_key ws t key (act t))) r ws
unfolding on_list reading_of on_reading on_key read
bad_key_meets h key act bad a = rw (h.list, ap (λ (s : Settings). s.largest) h.settings, bad) (record { answered = a; left = refl })

-- Set up

pub set_up_outcome_out_of_range : (D K C : ℕ) (ws : List ℕ) → in_range D K C ≡ false → set_up_out D K C ws ≡ refused OutOfRange ws
unfolding set_up_out checked_of set_up_by
set_up_outcome_out_of_range D K C ws e = rw e refl

pub set_up_outcome_wrong_length : (D K C : ℕ) (ws : List ℕ) → in_range D K C ≡ true → (length ws ≡ length_of D C → ⊥) → set_up_out D K C ws ≡ refused WrongLength ws
unfolding set_up_out checked_of set_up_by
set_up_outcome_wrong_length D K C ws e ne = rw (e, ne_eqb (length ws) (length_of D C) ne, set_up_by) refl

pub set_up_outcome : (D K C : ℕ) (ws : List ℕ) → in_range D K C ≡ true → length ws ≡ length_of D C → set_up_out D K C ws ≡ accepted 0 0 0 (picture (fresh D K C))
unfolding set_up_out checked_of set_up_by
set_up_outcome D K C ws e l = rw (e, eq-eqb (length ws) (length_of D C) l, set_up_by) refl

-- Insert

pub insert_outcome_not_a_list : (ws : List ℕ) (key value : ℕ) → is_list ws ≡ false → insert_out ws key value ≡ refused NotAList ws
unfolding insert_out
insert_outcome_not_a_list ws key value e = not_on_list ws (λ s. on_key ws s key (insert_at ws s key value (node_at key s.row))) e

pub insert_outcome_bad_key : (s : State) → Sound s → (key value : ℕ) → (1 ≤ key → s.settings.largest < key) →
    insert_out (picture s) key value ≡ refused BadKey (picture s)
unfolding insert_out
insert_outcome_bad_key s v key value f = on_picture_bad_key s v key (λ t. insert_at (picture s) t key value (node_at key t.row)) f

insert_outcome : (s : State) → Sound s → (key value : ℕ) → 1 ≤ key → key ≤ s.settings.largest →
    insert_out (picture s) key value ≡ insert_at (picture s) s key value (node_at key s.row)
unfolding insert_out
insert_outcome s v key value l h = on_picture_key s v key (λ t. insert_at (picture s) t key value (node_at key t.row)) l h

pub insert_outcome_live : (s : State) → Sound s → (key value : ℕ) → 1 ≤ key → key ≤ s.settings.largest →
    (x : Node) → node_at key s.row ≡ Some x → x.live ≡ true → insert_out (picture s) key value ≡ refused (KeyLive key (looked s key)) (picture s)
unfolding insert_at
insert_outcome_live s v key value l h x e live =
    insert_outcome s v key value l h ∙ ap (insert_at (picture s) s key value) e
    ∙ ap (λ t. cond t (refused (KeyLive key (looked s key)) (picture s)) (accepted key 0 (looked s key) (picture (revived s x value)))) live

pub insert_outcome_dead : (s : State) → Sound s → (key value : ℕ) → 1 ≤ key → key ≤ s.settings.largest →
    (x : Node) → node_at key s.row ≡ Some x → x.live ≡ false → insert_out (picture s) key value ≡ accepted key 0 (looked s key) (picture (revived s x value))
unfolding insert_at
insert_outcome_dead s v key value l h x e dead =
    insert_outcome s v key value l h ∙ ap (insert_at (picture s) s key value) e
    ∙ ap (λ t. cond t (refused (KeyLive key (looked s key)) (picture s)) (accepted key 0 (looked s key) (picture (revived s x value)))) dead

pub insert_outcome_full : (s : State) → Sound s → (key value : ℕ) → 1 ≤ key → key ≤ s.settings.largest →
    node_at key s.row ≡ None → length s.free ≡ 0 → insert_out (picture s) key value ≡ refused (NoFreeCell key (looked s key)) (picture s)
unfolding insert_at insert_new
insert_outcome_full s v key value l h e full =
    insert_outcome s v key value l h ∙ ap (insert_at (picture s) s key value) e ∙ rw (eq-eqb (length s.free) 0 full) refl

pub insert_outcome_new : (s : State) → Sound s → (key value : ℕ) → 1 ≤ key → key ≤ s.settings.largest →
    node_at key s.row ≡ None → 0 < length s.free → insert_out (picture s) key value
    ≡ accepted key 0 (looked s key) (picture (added s key value (slot_for s key)))
unfolding insert_at insert_new
insert_outcome_new s v key value l h e room =
    insert_outcome s v key value l h ∙ ap (insert_at (picture s) s key value) e
    ∙ rw (ne_eqb (length s.free) 0 (λ q. omega arith)) refl

-- Find

pub find_outcome_not_a_list : (ws : List ℕ) (key : ℕ) → is_list ws ≡ false → find_out ws key ≡ refused NotAList ws
unfolding find_out
find_outcome_not_a_list ws key e = not_on_list ws (λ s. on_key ws s key (find_at ws s key (node_at key s.row))) e

pub find_outcome_bad_key : (s : State) → Sound s → (key : ℕ) → (1 ≤ key → s.settings.largest < key) → find_out (picture s) key ≡ refused BadKey (picture s)
unfolding find_out
find_outcome_bad_key s v key f = on_picture_bad_key s v key (λ t. find_at (picture s) t key (node_at key t.row)) f

find_outcome : (s : State) → Sound s → (key : ℕ) → 1 ≤ key → key ≤ s.settings.largest →
    find_out (picture s) key ≡ find_at (picture s) s key (node_at key s.row)
unfolding find_out
find_outcome s v key l h = on_picture_key s v key (λ t. find_at (picture s) t key (node_at key t.row)) l h

pub find_outcome_absent : (s : State) → Sound s → (key : ℕ) → 1 ≤ key → key ≤ s.settings.largest →
    node_at key s.row ≡ None → find_out (picture s) key ≡ refused (KeyNotLive key (looked s key)) (picture s)
unfolding find_at
find_outcome_absent s v key l h e = find_outcome s v key l h ∙ ap (find_at (picture s) s key) e

pub find_outcome_dead : (s : State) → Sound s → (key : ℕ) → 1 ≤ key → key ≤ s.settings.largest →
    (x : Node) → node_at key s.row ≡ Some x → x.live ≡ false → find_out (picture s) key ≡ refused (KeyNotLive key (looked s key)) (picture s)
unfolding find_at
find_outcome_dead s v key l h x e dead =
    find_outcome s v key l h ∙ ap (find_at (picture s) s key) e
    ∙ ap (λ t. cond t (accepted key x.value (looked s key) (picture s)) (refused (KeyNotLive key (looked s key)) (picture s))) dead

pub find_outcome_live : (s : State) → Sound s → (key : ℕ) → 1 ≤ key → key ≤ s.settings.largest →
    (x : Node) → node_at key s.row ≡ Some x → x.live ≡ true → find_out (picture s) key ≡ accepted key x.value (looked s key) (picture s)
unfolding find_at
find_outcome_live s v key l h x e live =
    find_outcome s v key l h ∙ ap (find_at (picture s) s key) e
    ∙ ap (λ t. cond t (accepted key x.value (looked s key) (picture s)) (refused (KeyNotLive key (looked s key)) (picture s))) live

-- Finish

pub finish_outcome_not_a_list : (ws : List ℕ) (key : ℕ) → is_list ws ≡ false → finish_out ws key ≡ refused NotAList ws
unfolding finish_out
finish_outcome_not_a_list ws key e = not_on_list ws (λ s. on_key ws s key (finish_at ws s key (node_at key s.row))) e

pub finish_outcome_bad_key : (s : State) → Sound s → (key : ℕ) → (1 ≤ key → s.settings.largest < key) → finish_out (picture s) key ≡ refused BadKey (picture s)
unfolding finish_out
finish_outcome_bad_key s v key f = on_picture_bad_key s v key (λ t. finish_at (picture s) t key (node_at key t.row)) f

finish_outcome : (s : State) → Sound s → (key : ℕ) → 1 ≤ key → key ≤ s.settings.largest →
    finish_out (picture s) key ≡ finish_at (picture s) s key (node_at key s.row)
unfolding finish_out
finish_outcome s v key l h = on_picture_key s v key (λ t. finish_at (picture s) t key (node_at key t.row)) l h

pub finish_outcome_absent : (s : State) → Sound s → (key : ℕ) → 1 ≤ key → key ≤ s.settings.largest →
    node_at key s.row ≡ None → finish_out (picture s) key ≡ refused (KeyNotStanding key) (picture s)
unfolding finish_at
finish_outcome_absent s v key l h e = finish_outcome s v key l h ∙ ap (finish_at (picture s) s key) e

pub finish_outcome_standing : (s : State) → Sound s → (key : ℕ) → 1 ≤ key → key ≤ s.settings.largest →
    (x : Node) → node_at key s.row ≡ Some x →
    finish_out (picture s) key ≡ accepted key 0 (links_moved s (place_of x.cell (places_of s s.row))) (picture (with_row s (finished x.cell s.row)))
unfolding finish_at
finish_outcome_standing s v key l h x e = finish_outcome s v key l h ∙ ap (finish_at (picture s) s key) e

-- Take

pub take_outcome_not_a_list : (ws : List ℕ) → is_list ws ≡ false → take_out ws ≡ refused NotAList ws
unfolding take_out
take_outcome_not_a_list ws e = not_on_list ws (λ s. take_from ws s (from_live s.row)) e

take_outcome : (s : State) → Sound s → take_out (picture s) ≡ take_from (picture s) s (from_live s.row)
unfolding take_out
take_outcome s v = on_picture s v (λ t. take_from (picture s) t (from_live t.row))

pub take_outcome_none : (s : State) → Sound s → from_live s.row ≡ [] →
    take_out (picture s) ≡ refused (NothingLive (keys_above (position_key s) s.row)) (picture s)
unfolding take_from
take_outcome_none s v e = take_outcome s v ∙ ap (take_from (picture s) s) e

pub take_outcome_first : (s : State) → Sound s → (x : Node) (later : List Node) → from_live s.row ≡ x ∷ later →
    take_out (picture s) ≡ accepted x.key x.value (keys_passed (position_key s) x.key s.row) (picture (taken s x))
unfolding take_from
take_outcome_first s v x later e = take_outcome s v ∙ ap (take_from (picture s) s) e

-- Sweep

pub sweep_outcome_not_a_list : (ws : List ℕ) → is_list ws ≡ false → sweep_out ws ≡ refused NotAList ws
unfolding sweep_out
sweep_outcome_not_a_list ws e = not_on_list ws (λ s. accepted 0 0 (length (freed_by s.row)) (picture (swept s))) e

pub sweep_outcome : (s : State) → Sound s → sweep_out (picture s) ≡ accepted 0 0 (length (freed_by s.row)) (picture (swept s))
unfolding sweep_out
sweep_outcome s v = on_picture s v (λ s. accepted 0 0 (length (freed_by s.row)) (picture (swept s)))

-- What holds of each end of an operation, on any words, holds of its outcome

on_list-has : (P : Outcome (List ℕ) → Type 0) (ws : List ℕ) (act : State → Outcome (List ℕ)) → P (refused NotAList ws) → ((s : State) → P (act s)) →
    P (on_list ws act)
unfolding on_list on_reading
on_list-has P ws act p q = at (reading_of ws)
  where
    at : (t : Option Settings) → P (on_reading ws act t)
    at (Some s) = q (read ws)
    at None = p

on_key-has : (P : Outcome (List ℕ) → Type 0) (ws : List ℕ) (s : State) (key : ℕ) (done : Outcome (List ℕ)) → P (refused BadKey ws) → P done →
    P (on_key ws s key done)
unfolding on_key
on_key-has P ws s key done p q = cond_has P (leb 1 key && leb key s.settings.largest) done (refused BadKey ws) q p

-- P holds of every refusal of the words, and of what each operation accepts
module _ (P : Outcome (List ℕ) → Type 0) (ws : List ℕ) (turned : (r : Refusal) → P (refused r ws)) where
  pub set_up_has : (D K C : ℕ) → P (accepted 0 0 0 (picture (fresh D K C))) → P (set_up_out D K C ws)
  unfolding set_up_out checked_of set_up_by
  set_up_has D K C done = at (in_range D K C)
    where
      by : (u : Bool) → P (elim u [ true ↦ accepted 0 0 0 (picture (fresh D K C)) | false ↦ refused WrongLength ws ])
      by true = done
      by false = turned WrongLength

      at : (t : Bool) → P (set_up_by ws (cond t (Some (settings_of D K C)) None))
      at true = by (eqb (length ws) (length_of D C))
      at false = turned OutOfRange

  keyed_has : (key : ℕ) (act : State → Outcome (List ℕ)) → ((s : State) → P (act s)) → P (on_list ws (λ s. on_key ws s key (act s)))
  keyed_has key act done = on_list-has P ws (λ s. on_key ws s key (act s)) (turned NotAList) (λ s. on_key-has P ws s key (act s) (turned BadKey) (done s))

  pub insert_has : (key value : ℕ) → ((count : ℕ) (s : State) → P (accepted key 0 count (picture s))) → P (insert_out ws key value)
  unfolding insert_out insert_at insert_new
  insert_has key value done = keyed_has key (λ s. insert_at ws s key value (node_at key s.row)) (λ s. at s (node_at key s.row))
    where
      at : (s : State) (o : Option Node) → P (insert_at ws s key value o)
      at s None =
          cond_has P (eqb (length s.free) 0) _ _ (turned (NoFreeCell key (looked s key))) (done (looked s key) (added s key value (slot_for s key)))
      at s (Some x) = cond_has P x.live _ _ (turned (KeyLive key (looked s key))) (done (looked s key) (revived s x value))

  pub find_has : (key : ℕ) → ((value count : ℕ) → P (accepted key value count ws)) → P (find_out ws key)
  unfolding find_out find_at
  find_has key done = keyed_has key (λ s. find_at ws s key (node_at key s.row)) (λ s. at s (node_at key s.row))
    where
      at : (s : State) (o : Option Node) → P (find_at ws s key o)
      at s None = turned (KeyNotLive key (looked s key))
      at s (Some x) = cond_has P x.live _ _ (done x.value (looked s key)) (turned (KeyNotLive key (looked s key)))

  pub finish_has : (key : ℕ) → ((count : ℕ) (s : State) → P (accepted key 0 count (picture s))) → P (finish_out ws key)
  unfolding finish_out finish_at
  finish_has key done = keyed_has key (λ s. finish_at ws s key (node_at key s.row)) (λ s. at s (node_at key s.row))
    where
      at : (s : State) (o : Option Node) → P (finish_at ws s key o)
      at s None = turned (KeyNotStanding key)
      at s (Some x) = done (links_moved s (place_of x.cell (places_of s s.row))) (with_row s (finished x.cell s.row))

  pub take_has : ((key value count : ℕ) (s : State) → P (accepted key value count (picture s))) → P (take_out ws)
  unfolding take_out take_from
  take_has done = on_list-has P ws (λ s. take_from ws s (from_live s.row)) (turned NotAList) (λ s. at s (from_live s.row))
    where
      at : (s : State) (row : List Node) → P (take_from ws s row)
      at s [] = turned (NothingLive (keys_above (position_key s) s.row))
      at s (x ∷ later) = done x.key x.value (keys_passed (position_key s) x.key s.row) (taken s x)

  pub sweep_has : ((count : ℕ) (s : State) → P (accepted 0 0 count (picture s))) → P (sweep_out ws)
  unfolding sweep_out
  sweep_has done =
      on_list-has P ws (λ s. accepted 0 0 (length (freed_by s.row)) (picture (swept s))) (turned NotAList)
      (λ s. done (length (freed_by s.row)) (swept s))

-- a find writes nothing
pub find_writes_nothing : (ws : List ℕ) (key : ℕ) → (find_out ws key).left ≡ ws
find_writes_nothing ws key = find_has (λ o. o.left ≡ ws) ws (λ r. refl) key (λ value count. refl)

-- A key is out of range, or absent, or a node's.
pub key_cases : {R : Type 0} (s : State) (key : ℕ) → ((1 ≤ key → s.settings.largest < key) → R) →
    (1 ≤ key → key ≤ s.settings.largest → node_at key s.row ≡ None → R) →
    (1 ≤ key → key ≤ s.settings.largest → (x : Node) → node_at key s.row ≡ Some x → R) → R
key_cases {R} s key bad absent standing = go (dec_le 1 key) (dec_le key s.settings.largest)
  where
    found : 1 ≤ key → key ≤ s.settings.largest → (o : Option Node) → node_at key s.row ≡ o → R
    found h l None a = absent h l a
    found h l (Some x) a = standing h l x a

    go : Dec (1 ≤ key) → Dec (key ≤ s.settings.largest) → R
    go (yes h) (yes l) = found h l (node_at key s.row) refl
    go (yes h) (no n) = bad (λ z. lt_of_not-le n)
    go (no n) d = bad (λ h. absurd (n h))

-- a node is live or dead
pub live_cases : {R : Type 0} (x : Node) → (x.live ≡ true → R) → (x.live ≡ false → R) → R
live_cases {R} x live dead = go x.live refl
  where
    go : (t : Bool) → x.live ≡ t → R
    go true e = live e
    go false e = dead e

-- there is a free cell or none
pub free_cases : {R : Type 0} (s : State) → (length s.free ≡ 0 → R) → (0 < length s.free → R) → R
free_cases {R} s full room = go (length s.free) refl
  where
    go : (n : ℕ) → length s.free ≡ n → R
    go zero e = full e
    go (suc n) e = room (omega arith)
