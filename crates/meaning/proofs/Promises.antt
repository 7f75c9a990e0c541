-- The promises of specs/Promises.antt, each proved: the laws of states, carried to lists.
use mathlib.Core.Path.{◌≡◌, refl, ◌∙◌, sym, ap, ap₂, subst}
use mathlib.Core.Bool.{true, false, true≢false}
use mathlib.Core.List.{List, map}
use mathlib.Core.Logic.{◌↔◌}
use Prim.Native.Nat.{ℕ, ◌*◌, ◌-◌, ◌^◌, ◌≤◌, ◌<◌}
use native.Mathlib.Omega.{arith}
use lib.ListN.{length}
use Rattle.settings.specs.Numbers.{base_of}
use Rattle.lists.specs.Lists.{occurrences}
use Rattle.lists.proofs.Occurrences.{distinct_once}
use Rattle.meaning.specs.Row.{smaller_than}
use Rattle.meaning.specs.State.{State}
use Rattle.meaning.specs.Picture.{picture}
use Rattle.meaning.specs.Reading.{read, is_list, standing_keys}
use Rattle.answers.specs.Refusals.{Outcome, refused}
use Rattle.answers.specs.declared.Refusal.TheVariants.{BadKey}
use Rattle.meaning.specs.Operations.{looked, insert_out, find_out}
use Rattle.meaning.specs.Rule.{rule}
use Rattle.meaning.specs.Words.{key_at, dimensions_at, largest_at, base_at}
use Rattle.meaning.specs.Walk.{trail_from, trail, ends, walk}
use Rattle.meaning.specs.Lower.{lower_way_for, lower_for}
use Rattle.meaning.specs.Promises.{Looks, answers_looked, CountsWalk, ListsCountWalks, PresentMeansThatKey, FindWritesNothing, TakeWrites, ReviveWrites}
use Rattle.meaning.specs.Promises.{InsertWrites, FinishWrites, SweepWrites, EachCellOnce, SweptCellsFirst, InsertUsesFirst, SharedMeansLeading}
use Rattle.meaning.specs.Promises.{ListMeansSentences, WalkIsRule, WalkOnce, WalkBounded, WalkEnds, WalkByKeysAlone, OrderIsLexicographic}
use Rattle.meaning.specs.Promises.{ShapeByKeysAlone, OwedCellsStand, OwedCellsStandInSweep, WayToLower, LateInserts}
use Rattle.meaning.proofs.Rows.Keys.{shared_agreed, lexicographic, coordinates_determine}
use Rattle.meaning.proofs.Rows.AscendingKeys.{asc_rising, rising_equal}
use Rattle.meaning.proofs.Pictures.State.{Sound, base_positive, base_above}
use Rattle.meaning.proofs.Pictures.ReadBack.{list_sound, picture_is_list, read_of_picture}
use Rattle.meaning.proofs.Outcomes.{on_lists, insert_outcome_bad_key, insert_outcome_live, insert_outcome_dead, insert_outcome_full}
use Rattle.meaning.proofs.Outcomes.{on_read_lists, insert_outcome_new, find_outcome_bad_key, find_outcome_absent, find_outcome_dead, find_outcome_live}
use Rattle.meaning.proofs.Outcomes.{key_cases, live_cases, free_cases}
use Rattle.meaning.proofs.Promised.Writes as leaves
use Rattle.meaning.proofs.Promised.OwedCells as owed
use Rattle.meaning.proofs.Walks.Lower as lower
use Rattle.meaning.proofs.Promised.FallsBack as back
use Rattle.meaning.proofs.Promised.Serves as serves
use Rattle.meaning.proofs.Promised.Present as present
use Rattle.meaning.proofs.Walks.Walk as walks
use Rattle.meaning.proofs.Walks.Walk.{trail_ends, trail_more, walk_looked}
use Rattle.meaning.proofs.BothWays.Converse.{list_exactly_if}
use Rattle.meaning.proofs.BothWays.ShapeByKeys.{keys_alike, links_by_keys}

-- keys up to K are below b to the power D
pub list_keys : (ws : List ℕ) → is_list ws ≡ true → (0 < base_at ws) × (largest_at ws < base_at ws ^ dimensions_at ws)
unfolding picture
list_keys = on_lists (λ ws. (0 < base_at ws) × (largest_at ws < base_at ws ^ dimensions_at ws)) (λ s v. (base_positive s v, base_above s v))

pub shared_means_leading : SharedMeansLeading
shared_means_leading ws e x y hx hy =
    let k = list_keys ws e in
    let a = k.1 in
    shared_agreed (base_at ws) (dimensions_at ws) x y k.0 (omega arith) (omega arith)

pub list_means_sentences : ListMeansSentences
list_means_sentences = list_exactly_if

pub walk_is_rule : WalkIsRule
unfolding picture
walk_is_rule =
    on_lists
    (λ ws. (k : ℕ) → 1 ≤ k → k ≤ largest_at ws → map (key_at ws) (walk ws k) ≡ rule (base_at ws) (dimensions_at ws) (standing_keys ws) k)
    (λ s v k h l. walks.walk_is_rule s v k h l ∙ ap (λ t. rule s.settings.base s.settings.dimensions (map (λ x. x.key) t.row) k)
    (sym (read_of_picture s v)))

pub walk_once : WalkOnce
unfolding picture
walk_once =
    on_lists
    (λ ws. (k : ℕ) → 1 ≤ k → k ≤ largest_at ws → (x : ℕ) → occurrences x (walk ws k) ≤ 1)
    (λ s v k h l x. distinct_once x (walk (picture s) k) (walks.walk_once s v k h l))

pub walk_bounded : WalkBounded
unfolding picture
walk_bounded =
    on_lists (λ ws. (k : ℕ) → 1 ≤ k → k ≤ largest_at ws → length (walk ws k) ≤ dimensions_at ws * (base_at ws - 1)) (λ s v. walks.walk_bounded s v)

pub walk_ends : WalkEnds
unfolding picture
walk_ends =
    on_lists
    (λ ws. (k : ℕ) → 1 ≤ k → k ≤ largest_at ws
    → (ends (trail ws k) ≡ true) × ((fuel : ℕ) → dimensions_at ws * base_at ws ≤ fuel → trail_from fuel ws k 0 0 ≡ trail ws k))
    (λ s v k h l. (trail_ends s v k h l, trail_more s v k h l))

-- the base of a list follows from its dimensions and its largest key
list_base : (ws : List ℕ) → is_list ws ≡ true → base_at ws ≡ base_of (dimensions_at ws) (largest_at ws)
unfolding picture
list_base = on_lists (λ ws. base_at ws ≡ base_of (dimensions_at ws) (largest_at ws)) (λ s v. v.base)

-- Two lists with the same dimensions and largest key have the same base, and the same standing keys in the same order.
module _ (ws vs : List ℕ) (e : is_list ws ≡ true) (f : is_list vs ≡ true) where
  same_base : dimensions_at ws ≡ dimensions_at vs → largest_at ws ≡ largest_at vs → base_at ws ≡ base_at vs
  same_base d l = list_base ws e ∙ (ap₂ base_of d l ∙ sym (list_base vs f))

  same_keys : ((key : ℕ) → (0 < occurrences key (standing_keys ws)) ↔ (0 < occurrences key (standing_keys vs))) → standing_keys ws ≡ standing_keys vs
  same_keys same =
      rising_equal 0 (standing_keys ws) (standing_keys vs) (asc_rising 0 (read ws).row (list_sound ws e).ascends)
      (asc_rising 0 (read vs).row (list_sound vs f).ascends) same

pub walk_by_keys_alone : WalkByKeysAlone
walk_by_keys_alone ws vs e f d l same k h m =
    walk_is_rule ws e k h m
    ∙ (ap (λ t. rule t (dimensions_at ws) (standing_keys ws) k) (same_base ws vs e f d l)
    ∙ (ap (λ t. rule (base_at vs) t (standing_keys ws) k) d
    ∙ (ap (λ t. rule (base_at vs) (dimensions_at vs) t k) (same_keys ws vs e f same) ∙ sym (walk_is_rule vs f k h (subst (λ t. k ≤ t) l m)))))

pub shape_by_keys_alone : ShapeByKeysAlone
shape_by_keys_alone ws vs e f d l same settled settled' x y sx sy k i h =
    links_by_keys ws vs e f (keys_alike ws vs e f d (same_base ws vs e f d l) (same_keys ws vs e f same)) settled settled' x y sx sy k i h

pub order_is_lexicographic : OrderIsLexicographic
order_is_lexicographic ws e x y hx hy =
    let k = list_keys ws e in
    let a = k.1 in (
      lexicographic (base_at ws) (dimensions_at ws) x y k.0 (omega arith) (omega arith),
      coordinates_determine (base_at ws) (dimensions_at ws) x y
          k.0 (omega arith) (omega arith),
    )

-- an outcome on a list that answers looked has a key in range, and answers looked
pub record Counts (s : State) (key : ℕ) (o : Outcome (List ℕ)) : Type 0 where
  pub least : 1 ≤ key
  pub most : key ≤ s.settings.largest
  pub count : o.answered.count ≡ looked s key

counted_by : (s : State) (key : ℕ) (o p : Outcome (List ℕ)) → 1 ≤ key → key ≤ s.settings.largest → o ≡ p → p.answered.count ≡ looked s key → Counts s key o
counted_by s key o p h l e c = record { least = h; most = l; count = ap (λ (t : Outcome (List ℕ)). t.answered.count) e ∙ c }

-- a key out of range answers no looked
not_looked : (s : State) (key : ℕ) (o : Outcome (List ℕ)) → o ≡ refused BadKey (picture s) → answers_looked o.answered.refusal ≡ true → Counts s key o
not_looked s key o e l = absurd (let z : true ≡ false = sym l ∙ ap (λ (t : Outcome (List ℕ)). answers_looked t.answered.refusal) e in true≢false z)

insert_counts : (s : State) → Sound s → (key value : ℕ) → answers_looked (insert_out (picture s) key value).answered.refusal ≡ true →
    Counts s key (insert_out (picture s) key value)
insert_counts s v key value e =
    key_cases s key
    (λ n. not_looked s key (insert_out (picture s) key value) (insert_outcome_bad_key s v key value n) e)
    (λ h l a. free_cases s
    (λ f. counted_by s key (insert_out (picture s) key value) _ h l (insert_outcome_full s v key value h l a f) refl)
    (λ f. counted_by s key (insert_out (picture s) key value) _ h l (insert_outcome_new s v key value h l a f) refl))
    (λ h l x a. live_cases x
    (λ q. counted_by s key (insert_out (picture s) key value) _ h l (insert_outcome_live s v key value h l x a q) refl)
    (λ q. counted_by s key (insert_out (picture s) key value) _ h l (insert_outcome_dead s v key value h l x a q) refl))

find_counts : (s : State) → Sound s → (key : ℕ) → answers_looked (find_out (picture s) key).answered.refusal ≡ true → Counts s key (find_out (picture s) key)
find_counts s v key e =
    key_cases s key
    (λ n. not_looked s key (find_out (picture s) key) (find_outcome_bad_key s v key n) e)
    (λ h l a. counted_by s key (find_out (picture s) key) _ h l (find_outcome_absent s v key h l a) refl)
    (λ h l x a. live_cases x
    (λ q. counted_by s key (find_out (picture s) key) _ h l (find_outcome_live s v key h l x a q) refl)
    (λ q. counted_by s key (find_out (picture s) key) _ h l (find_outcome_dead s v key h l x a q) refl))

-- .. which is the walk's number of cells, and the rule's
looks : (s : State) (v : Sound s) (key : ℕ) (o : Outcome (List ℕ)) → Counts s key o → Looks (picture s) key o.answered.count
unfolding picture
looks s v key o c =
    let n = walk_looked s v key c.least c.most in
    record {
      walked = c.count ∙ sym n;
      ruled = walk_is_rule (picture s) (picture_is_list s v) key c.least c.most;
      bounded = subst (λ (t : ℕ). t ≤ s.settings.dimensions * (s.settings.base - 1)) (n ∙ sym c.count) (walks.walk_bounded s v key c.least c.most);
    }

pub owed_cells_stand : OwedCellsStand
owed_cells_stand = owed.owed_cells_stand

pub owed_cells_stand_in_sweep : OwedCellsStandInSweep
owed_cells_stand_in_sweep = owed.owed_cells_stand_in_sweep

pub way_to_lower : WayToLower
unfolding picture
way_to_lower =
    on_read_lists
    (λ s ws. (k : ℕ) → 1 ≤ k → k ≤ largest_at ws →
    (lower_for ws k ≡ (smaller_than k s.row).cell) × (length (lower_way_for ws k) ≤ dimensions_at ws * (base_at ws - 1)))
    lower.way_to_lower

pub late_inserts : LateInserts
late_inserts = back.late_inserts

pub present_means_that_key : PresentMeansThatKey
present_means_that_key = present.present_means_that_key

pub find_writes_nothing : FindWritesNothing
find_writes_nothing = leaves.find_writes

pub take_writes : TakeWrites
take_writes = leaves.take_writes

pub revive_writes : ReviveWrites
revive_writes = leaves.revive_writes

pub insert_writes : InsertWrites
insert_writes = leaves.insert_writes

pub finish_writes : FinishWrites
finish_writes = leaves.finish_writes

pub sweep_writes : SweepWrites
sweep_writes = leaves.sweep_writes

pub each_cell_once : EachCellOnce
each_cell_once = serves.each_cell_once

pub swept_cells_first : SweptCellsFirst
swept_cells_first = serves.swept_cells_first

pub insert_uses_first : InsertUsesFirst
insert_uses_first = serves.insert_uses_first

pub lists_count_walks : ListsCountWalks
lists_count_walks =
    on_lists CountsWalk (λ s v key value. (
      λ e. looks s v key (insert_out (picture s) key value) (insert_counts s v key value e),
      λ e. looks s v key (find_out (picture s) key) (find_counts s v key e),
    ))
