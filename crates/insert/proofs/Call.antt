-- Each way out of insert has the outcome of the definition, by what the search found; and the words that an accepted insert has written,
-- but for the path, are those of the state after the call.
use mathlib.Core.Path.{◌≡◌, refl, sym, ap, ◌∙◌, subst}
use mathlib.Core.Bool.{Bool, true, false, cond}
use mathlib.Core.List.{List, [], ◌∷◌}
use Prim.Native.Nat.{ℕ, ◌+◌, ◌≤◌, ◌<◌}
use native.Mathlib.Decide.{ℕ_discrete}
use native.Mathlib.Omega.{arith}
use lib.Dec.{eqb}
use lib.ListN.{length, get_or, set}
use lib.Seq.{sets}
use borrow.Author.Tests.{eq-eqb}
use Rattle.settings.specs.Numbers.{header_words}
use Rattle.settings.specs.declared.Settings.{Settings}
use Rattle.lists.specs.Lists.{first_number}
use Rattle.lists.proofs.All.{All, all_map}
use Rattle.meaning.specs.Row.{Node, node_at}
use Rattle.meaning.specs.State.{State, position_key}
use Rattle.meaning.specs.Picture.{path, picture}
use Rattle.meaning.specs.Reading.{read}
use Rattle.answers.specs.Refusals.{answer, Meets, accepted}
use Rattle.meaning.specs.Words.{word_index, word_at, mark_at, owed_at, first_free_at, link_field}
use Rattle.meaning.specs.Operations.{position_after, revived, slot_for, added, insert_out}
use Rattle.meaning.specs.declared.Slot.{Slot}
use Rattle.meaning.specs.Layer.Stores.{store, finish_words, write_path, write_node, new_words, insert_words, hung_words, paid_words}
use Rattle.answers.specs.declared.Answer.{Answer}
use Rattle.meaning.proofs.Pictures.State.{Sound, sound_valid}
use Rattle.meaning.proofs.Pictures.StateCells.{free_range}
use Rattle.meaning.proofs.Kept.Slot.{first_free_all}
use Rattle.meaning.proofs.Pictures.Picture.{picture_free, path_length}
use Rattle.meaning.proofs.Pictures.ReadBack.{read_of_picture}
use Rattle.meaning.proofs.Rows.Nodes.{node_key}
use Rattle.meaning.proofs.Cells.Stores.{Exact, picture_exact, exact_set, exact_sets, exact_finished, header_set_path, store_below, cell_sets_below}
use Rattle.meaning.proofs.Cells.Stores.{path_sets_same, finish_words-none, finish_words-below}
use Rattle.meaning.proofs.Cells.Changed.{picture_path_word}
use Rattle.meaning.proofs.Kept.KeepsFinish.{finished_sound}
use Rattle.meaning.proofs.Kept.KeepsInsert.{revived_sound, added_sound}
use Rattle.meaning.proofs.Written.FinishWords.{finish_words_lem}
use Rattle.meaning.proofs.Written.TakeWords.{revived_words, revived_words_above}
use Rattle.meaning.proofs.Written.InsertWords.{added_words, added_path}
use Rattle.meaning.proofs.Outcomes.{insert_outcome_live, insert_outcome_dead, insert_outcome_full, insert_outcome_new}
use Rattle.words.specs.Shaped.{Shaped}
use Rattle.words.proofs.Shaped.{word_is}
use Rattle.search.specs.Found.{found_of, slot_of, Sought}
use Rattle.search.specs.declared.Found.{Found}
use Rattle.search.proofs.Slots.{Present, SlotFound, found_standing, found_missing, found_slot, marked_live, marked_dead, on_sought}
use Rattle.new_cell.specs.NewCell.{Fits}
use Rattle.finish.specs.Payable.{Payable}
use Rattle.finish.proofs.Debts.{payable, listed_payable}
use Rattle.insert.specs.Inserting.{Ending, EndsInSome, PathWritten, ComesLast}

-- The outcome of an accepted call is the picture of a state, at which the words us end when the path is written.
pub record Leads (ws us : List ℕ) (s : Settings) (top key value : ℕ) (f : Found) : Type 0 where
  pub state : State
  pub ending : Ending us s top key (position_after (read ws) key) state
  pub outcome : insert_out ws key value ≡ accepted key 0 f.looked (picture state)

module _ {ws us : List ℕ} {s : Settings} {top key value : ℕ} {f : Found} (l : Leads ws us s top key value f) where
  -- what is asked before the path is written
  pub leads_due : {left : List ℕ} {high x : ℕ} → left ≡ us → high ≡ top → x ≡ position_after (read ws) key → EndsInSome left s high key x
  leads_due e h p = record { state = l.state; ending = rw (e, h, p) l.ending }

  -- what is left after it
  pub leads_words : {left out : List ℕ} {high x : ℕ} → left ≡ us → high ≡ top → x ≡ position_after (read ws) key → PathWritten left out s high key x →
      out ≡ (insert_out ws key value).left
  leads_words e h p w = w.is l.state (rw (e, h, p) l.ending) ∙ sym (ap (λ o. o.left) l.outcome)

  pub leads_meets : {out : List ℕ} {r : Answer} → out ≡ (insert_out ws key value).left → r ≡ answer 0 key 0 f.looked → Meets (insert_out ws key value) r out
  leads_meets w a = record { answered = a ∙ sym (ap (λ o. o.answered) l.outcome); left = w }

-- A key that stands

module _ {t : State} (v : Sound t) {key : ℕ} {x : Node} {f : Found} (found : Present t key x f) where
  revived_leads : 1 ≤ key → key ≤ t.settings.largest → (value : ℕ) → x.live ≡ false →
      Leads (picture t) (write_node t.settings.dimensions (picture t) f.c value 1) t.settings (position_key t) key value f
  revived_leads least most value dead =
      let same = node_key key x t.row found.node in
      let node = ap (λ k. node_at k t.row) same ∙ found.node in
      record {
        state = revived t x value;
        ending = rw found.c
            (record {
              order = sound_valid (revived t x value) (revived_sound t x value v node dead);
              settings = settings;
              words = revived_words t x value v node;
              position = position;
              kept = λ h. revived_words_above t x value v node (omega (arith, same));
            });
        outcome = insert_outcome_dead t v key value least most x found.node dead
            ∙ ap (λ n. accepted key 0 n (picture (revived t x value))) (sym found.looked);
      }
    where
      settings : (revived t x value).settings ≡ t.settings
      settings = unfold revived in refl

      position : (revived t x value).position ≡ position_after (read (picture t)) key
      position =
          let made : (revived t x value).position ≡ position_after t x.key = unfold revived in refl in
          made ∙ ap (position_after t) (node_key key x t.row found.node) ∙ ap (λ u. position_after u key) (sym (read_of_picture t v))

module _ {ws : List ℕ} {s : Settings} {key : ℕ} {f : Found} (k : Sought ws s key f) (stands : f.standing ≡ true) where
  pub live_meets : (value : ℕ) {r : Answer} {m : ℕ} → m ≡ mark_at ws f.c → m ≡ 1 → r ≡ answer 5 key 0 f.looked → Meets (insert_out ws key value) r ws
  live_meets value {r} {m} word one a =
      on_sought (λ t ws s. m ≡ mark_at ws f.c → Meets (insert_out ws key value) r ws) k
      (λ t v most q e.
      let (x, found) = found_standing v k.least q stands in
      rw (insert_outcome_live t v key value k.least most x found.node (marked_live v found e one))
      (record { answered = a ∙ ap (answer 5 key 0) found.looked; left = refl }))
      word

  pub dead_leads : (value : ℕ) → (mark_at ws f.c ≡ 1 → ⊥) →
      Leads ws (write_node s.dimensions ws f.c value 1) s (position_key (read ws)) key value f
  dead_leads value other =
      on_sought (λ t ws s. (mark_at ws f.c ≡ 1 → ⊥) → Leads ws (write_node s.dimensions ws f.c value 1) s (position_key t) key value f) k
      (λ t v most q no.
      let (x, found) = found_standing v k.least q stands in
      revived_leads v found k.least most value (marked_dead v found refl no))
      other

-- A key that does not stand

free_some : (free : List ℕ) {n : ℕ} → n ≡ first_number free → 0 < n → 0 < length free
free_some [] e h = absurd (omega arith)
free_some (c ∷ free) e h = omega arith

free_none : (free : List ℕ) {n : ℕ} → All (λ c. 0 < c) free → n ≡ first_number free → n ≡ 0 → length free ≡ 0
free_none [] a e z = refl
free_none (c ∷ free) a e z = absurd (let h = a.0 in omega arith)

-- the definition's words of a new cell, by the slot that was found: q says nothing where there is no c
same_words : (D key value n : ℕ) {f : Found} {t : Slot} → SlotFound f t → new_words D key value (slot_of n f) ≡ new_words D key value t
unfolding new_words
same_words D key value n {f} {t} g = at (ℕ_discrete f.c 0)
  where
    at : Dec (f.c ≡ 0) → new_words D key value (slot_of n f) ≡ new_words D key value t
    at (yes z) = rw (← g.c, eq-eqb f.c 0 z) refl
    at (no ne) = rw (← g.c, ← g.p, ← g.q ne) refl

same_slot : (D : ℕ) (ws : List ℕ) (key value n : ℕ) {f : Found} {t : Slot} → SlotFound f t → n ≡ t.n →
    insert_words D ws key value (slot_of n f) ≡ insert_words D ws key value t
unfolding insert_words
same_slot D ws key value n g e = rw (same_words D key value n g, g.parent, g.p, g.c, e) refl

-- the steps of the code hang the new cell as the definition says
pub hung :
    {ws : List ℕ} {s : Settings} → Shaped ws s → (key value : ℕ) (t : Slot) {next : ℕ} {cell us : List ℕ} → next ≡ word_at ws t.n 0 →
    cell ≡ sets (set ws 4 next) (word_index s.dimensions t.n 0) (new_words s.dimensions key value t) →
    us ≡ store s.dimensions cell t.parent (link_field t.p) t.n → us ≡ hung_words s.dimensions ws key value t
hung h key value t reads writes links = rw (links, writes, reads, ← word_is h t.n 0 refl) refl

-- .. and with the debts finished before, write what it says of the slot that was found, but for the path
pub new_written :
    (D : ℕ) (ws : List ℕ) (key value : ℕ) (t : Slot) {paid us : List ℕ} → paid ≡ paid_words D ws t.parent t.c → us ≡ hung_words D paid key value t →
    us ≡ insert_words D ws key value t
unfolding insert_words
new_written D ws key value t pays hangs = rw (hangs, pays) refl

-- The path's words stay

exact_inserted : {D C : ℕ} {ws : List ℕ} → Exact D C ws → (key value : ℕ) (t : Slot) → Exact D C (insert_words D ws key value t)
unfolding insert_words
exact_inserted {D} {C} {ws} exact key value t = exact_set (exact_sets (exact_set (at (eqb t.c 0)) 4 _) (word_index D t.n 0)
    (new_words D key value t)) (word_index D t.parent (link_field t.p)) t.n
  where
    at : (r : Bool) → Exact D C (cond r (finish_words D ws t.parent) (finish_words D (finish_words D ws t.parent) t.c))
    at true = exact_finished exact t.parent
    at false = exact_finished (exact_finished exact t.parent) t.c

inserted_path : (D : ℕ) (ws : List ℕ) (key value : ℕ) (t : Slot) (d : ℕ) → d < D →
    get_or (insert_words D ws key value t) (header_words + d) 0 ≡ get_or ws (header_words + d) 0
unfolding insert_words
inserted_path D ws key value t d h =
    let paid = paid_words D ws t.parent t.c in
    let next = get_or paid (word_index D t.n 0) 0 in
    let cell = new_words D key value t in
    store_below D (sets (set paid 4 next) (word_index D t.n 0) cell) t.parent (link_field t.p) t.n (header_words + d) (omega arith)
    ∙ cell_sets_below D (set paid 4 next) t.n 0 cell (header_words + d) (omega arith)
    ∙ header_set_path paid 4 next d (omega arith)
    ∙ at (eqb t.c 0)
  where
    at : (r : Bool) → get_or (cond r (finish_words D ws t.parent) (finish_words D (finish_words D ws t.parent) t.c)) (header_words + d) 0
        ≡ get_or ws (header_words + d) 0
    at true = finish_words-below D ws t.parent (header_words + d) (omega arith)
    at false =
        finish_words-below D (finish_words D ws t.parent) t.c (header_words + d) (omega arith)
        ∙ finish_words-below D ws t.parent (header_words + d) (omega arith)

module _ {t : State} (v : Sound t) (key value : ℕ) (least : 1 ≤ key) (most : key ≤ t.settings.largest) {f : Found} (is : f ≡ found_of t key)
    (missing : f.standing ≡ false) (room : 0 < length t.free) {n : ℕ} (first : n ≡ first_number t.free) where
  abbrev after : State
  after = added t key value (slot_for t key)

  slot : SlotFound f (slot_for t key)
  slot = found_slot v least is missing room

  written : insert_words t.settings.dimensions (picture t) key value (slot_of n f)
      ≡ insert_words t.settings.dimensions (picture t) key value (slot_for t key)
  written = same_slot t.settings.dimensions (picture t) key value n slot (first ∙ number)
    where
      number : first_number t.free ≡ (slot_for t key).n
      number = unfold slot_for in refl

  added_leads : Leads (picture t) (insert_words t.settings.dimensions (picture t) key value (slot_of n f)) t.settings
      (position_key t) key value f
  added_leads =
      let D = t.settings.dimensions in
      let absent = found_missing v least is missing in
      let none = absent.node in
      let words = added_words t v key value least most none room in
      record {
        state = after;
        ending = rw written
            (record {
              order = sound_valid after (added_sound t key value v least most none room);
              settings = settings;
              words = words;
              position = position;
              kept = λ h.
                  words
                  ∙ ap (write_path (insert_words D (picture t) key value (slot_for t key))) (added_path t v key value least most none room h)
                  ∙ path_sets_same (exact_inserted (picture_exact t) key value (slot_for t key)) (path t) (path_length t)
                  (λ d l. inserted_path D (picture t) key value (slot_for t key) d l ∙ picture_path_word t d l);
            });
        outcome = insert_outcome_new t v key value least most none room ∙ ap (λ m. accepted key 0 m (picture after)) (sym absent.looked);
      }
    where
      settings : after.settings ≡ t.settings
      settings = unfold added in refl

      position : after.position ≡ position_after (read (picture t)) key
      position =
          let made : after.position ≡ position_after t key = unfold added in refl in
          made ∙ ap (λ u. position_after u key) (sym (read_of_picture t v))

module _ {ws : List ℕ} {s : Settings} {key : ℕ} {f : Found} (k : Sought ws s key f) (missing : f.standing ≡ false) where
  -- the cells and links of the slot are the list's own
  pub parent_cell : f.parent < s.cells
  parent_cell = on_sought (λ t ws s. f.parent < s.cells) k (λ t v m q. (found_missing v k.least q missing).parent_below)

  pub p_link : f.p < s.dimensions
  p_link = on_sought (λ t ws s. f.p < s.dimensions) k (λ t v m q. (found_missing v k.least q missing).p_below)

  q_link : f.q < s.dimensions
  q_link = on_sought (λ t ws s. f.q < s.dimensions) k (λ t v m q. (found_missing v k.least q missing).q_below)

  q_none : f.c ≡ 0 → f.q ≡ 0
  q_none = on_sought (λ t ws s. f.c ≡ 0 → f.q ≡ 0) k (λ t v m q. (found_missing v k.least q missing).q_none)

  pub new_cell : {n : ℕ} → n ≡ first_free_at ws → 0 < n → n < s.cells
  new_cell {n} e h =
      on_sought (λ t ws s. n ≡ first_free_at ws → n < s.cells) k
      (λ t v m q word.
      let first = word ∙ picture_free t in
      rw first (first_free_all (λ c. (0 < c) × (c < t.settings.cells)) t.free (free_some t.free first h) (free_range t v)).1)
      e

  pub new_fits : {n : ℕ} → n ≡ first_free_at ws → 0 < n → Fits s (slot_of n f)
  new_fits e h = record { cell = new_cell e h; link = q_link; none = q_none }

  -- what the parent owes can be finished, and then what c owes
  pub payable_parent : Payable ws s f.parent
  payable_parent = listed_payable k.list f.parent parent_cell

  pub payable_c : Payable (finish_words s.dimensions ws f.parent) s f.c
  payable_c =
      on_sought (λ t ws s. Payable (finish_words s.dimensions ws f.parent) s f.c) k
      (λ t v m q.
      let absent = found_missing v k.least q missing in
      subst (λ us. Payable us t.settings f.c) (finish_words_lem t v f.parent absent.parent_stands)
      (payable (finished_sound t f.parent v) f.c absent.c_below))

  pub full_meets : (value : ℕ) {r : Answer} {n : ℕ} → n ≡ first_free_at ws → n ≡ 0 → r ≡ answer 6 key 0 f.looked → Meets (insert_out ws key value) r ws
  full_meets value {r} {n} word none a =
      on_sought (λ t ws s. n ≡ first_free_at ws → Meets (insert_out ws key value) r ws) k
      (λ t v most q e.
      let absent = found_missing v k.least q missing in
      let positive = all_map (λ c h. h.0) t.free (free_range t v) in
      rw (insert_outcome_full t v key value k.least most absent.node (free_none t.free positive (e ∙ picture_free t) none))
      (record { answered = a ∙ ap (answer 6 key 0) absent.looked; left = refl }))
      word

  pub new_leads : (value : ℕ) {n : ℕ} → n ≡ first_free_at ws → 0 < n →
      Leads ws (insert_words s.dimensions ws key value (slot_of n f)) s (position_key (read ws)) key value f
  new_leads value {n} e h =
      on_sought (λ t ws s. n ≡ first_free_at ws → Leads ws (insert_words s.dimensions ws key value (slot_of n f)) s (position_key t) key value f) k
      (λ t v most q word.
      let first = word ∙ picture_free t in
      added_leads v key value k.least most q missing (free_some t.free first h) first)
      e

-- A key that comes last

-- with no c and a parent that owes nothing, there is no debt to be finished
nothing_paid : (D : ℕ) (ws : List ℕ) (parent c : ℕ) → c ≡ 0 → owed_at ws parent ≡ 0 → ws ≡ paid_words D ws parent c
nothing_paid D ws parent c none owes = sym (rw (eq-eqb c 0 none) (finish_words-none D ws parent owes))

module _ {ws : List ℕ} {s : Settings} {key parent p : ℕ} (k : ComesLast ws s key parent p) where
  pub last_parent : parent < s.cells
  last_parent = subst (λ x. x < s.cells) k.parent_is (parent_cell k.sought k.missing)

  pub last_link : p < s.dimensions
  last_link = subst (λ d. d < s.dimensions) k.p_is (p_link k.sought k.missing)

  -- the slot, as the code has it
  abbrev last_slot : ℕ → Slot
  last_slot n = record { n = n; parent = parent; p = p; c = 0; q = 0 }

  found_last : (n : ℕ) → slot_of n k.found ≡ last_slot n
  found_last n =
      let q = q_none k.sought k.missing k.none in
      λ i. record { n = n; parent = k.parent_is i; p = k.p_is i; c = k.none i; q = q i }

  pub last_cell : {n : ℕ} → n ≡ first_free_at ws → 0 < n → n < s.cells
  last_cell = new_cell k.sought k.missing

  -- hung so, the words are those of the state with the new node
  pub last_left : {n : ℕ} → n ≡ first_free_at ws → 0 < n → (value : ℕ) {us : List ℕ} → us ≡ hung_words s.dimensions ws key value (last_slot n) →
      us ≡ (insert_out ws key value).left
  last_left {n} first some value {us} hangs =
      let leads = new_leads k.sought k.missing value first some in
      let D = s.dimensions in
      let f = k.found in
      let paid = nothing_paid D ws f.parent f.c k.none (ap (owed_at ws) k.parent_is ∙ k.owes_nothing) in
      new_written D ws key value (slot_of n f) paid (hangs ∙ ap (hung_words D ws key value) (sym (found_last n)))
      ∙ sym (leads.ending.kept k.above)
      ∙ sym (ap (λ o. o.left) leads.outcome)
