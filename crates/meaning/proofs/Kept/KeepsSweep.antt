-- Sweeping keeps a state in order: the row is what is freed and what is kept, the freed cells move from the row to the chain, so each
-- occurs as often as before, and nothing is owed. The new position is the last of the dead front, or the head.
use mathlib.Core.Path.{◌≡◌, refl, sym, ◌∙◌, ap, subst}
use mathlib.Core.Bool.{false}
use mathlib.Core.List.{List, ◌∷◌, ◌++◌, map, reverse_aux, map-append, append_assoc}
use Prim.Native.Nat.{ℕ, ◌≤◌, ◌<◌}
use native.Mathlib.Omega.{arith}
use lib.ListN.{length, length-append, length-reverse_aux}
use Rattle.lists.specs.Lists.{occurrences}
use Rattle.lists.proofs.Occurrences.{occurrences_here, occurrences_append, occurrences_reverse_aux, occurrences_more}
use Rattle.lists.proofs.All.{All, all_map, all_append, all_left, all_right, all_each, all_zip, all_mapped, all_reverse_aux}
use Rattle.meaning.specs.Row.{Node, head_node, last_of}
use Rattle.meaning.specs.State.{State, key_of}
use Rattle.meaning.specs.Operations.{paid, dead_front, from_live, last_alone, freed_by, swept}
use Rattle.meaning.proofs.Rows.AscendingRow.{Asc, asc_above}
use Rattle.meaning.proofs.Pictures.State.{Sound, cells_in}
use Rattle.meaning.proofs.Rows.Places.{key_of_same, key_of_other, asc_right, Keeping, cells_changed, key_of_head_changed, asc_changed}
use Rattle.meaning.proofs.Kept.KeepsState.{cells_positive, unowing_debts, row_split, dead_front-dead, last_split, last_cases}

-- The row

-- the nodes that a sweep keeps
abbrev pub kept_by : List Node → List Node
kept_by row = last_alone (dead_front row) ++ from_live row

pub swept_split : (row : List Node) → row ≡ freed_by row ++ kept_by row
unfolding freed_by
swept_split row =
    sym (row_split row) ∙ ap (λ r. r ++ from_live row) (sym (last_split (dead_front row)))
    ∙ append_assoc (freed_by row) (last_alone (dead_front row)) (from_live row)

pub paid_all_keeping : Keeping paid
paid_all_keeping = record { cell = λ x. refl; key = λ x. refl; head = refl }

-- what is kept is part of the row
pub kept_all : (P : Node → Type 0) (row : List Node) → All P row → All P (kept_by row)
kept_all P row a = all_right P (freed_by row) (kept_by row) (subst (All P) (swept_split row) a)

pub kept_asc : (key : ℕ) (row : List Node) → Asc key row → Asc key (kept_by row)
kept_asc key row a = asc_right key (freed_by row) (kept_by row) (subst (Asc key) (swept_split row) a)

-- Freed cells go to the front of the chain

pub moved_all : {A : Type 0} (P : A → Type 0) (freed kept free : List A) → All P ((freed ++ kept) ++ free) → All P (kept ++ reverse_aux freed free)
moved_all P freed kept free a =
    let standing = all_left P (freed ++ kept) free a in
    all_append P kept (reverse_aux freed free) (all_right P freed kept standing)
    (all_reverse_aux P freed free (all_left P freed kept standing) (all_right P (freed ++ kept) free a))

pub moved_length : {A : Type 0} (freed kept free : List A) → length (kept ++ reverse_aux freed free) ≡ length ((freed ++ kept) ++ free)
moved_length freed kept free = simp (length-append, length-reverse_aux) (omega arith)

pub moved_occurrences : (c : ℕ) (freed kept free : List ℕ) → occurrences c (kept ++ reverse_aux freed free) ≡ occurrences c ((freed ++ kept) ++ free)
moved_occurrences c freed kept free = simp (occurrences_append, occurrences_reverse_aux) (omega arith)

-- the cells of the state before the sweep, and after it: each occurs as often
pub swept_before : (s : State) → cells_in s ≡ (map (λ x. x.cell) (freed_by s.row) ++ map (λ x. x.cell) (kept_by s.row)) ++ s.free
swept_before s =
    ap (λ row. map (λ x. x.cell) row ++ s.free) (swept_split s.row)
    ∙ ap (λ cs. cs ++ s.free) (map-append (λ x. x.cell) (freed_by s.row) (kept_by s.row))

pub swept_after : (s : State) → cells_in (swept s) ≡ map (λ x. x.cell) (kept_by s.row) ++ reverse_aux (map (λ x. x.cell) (freed_by s.row)) s.free
unfolding swept
swept_after s = ap (λ cs. cs ++ reverse_aux (map (λ x. x.cell) (freed_by s.row)) s.free) (cells_changed paid paid_all_keeping (kept_by s.row))

pub swept_all : (P : ℕ → Type 0) (s : State) → All P (cells_in s) → All P (cells_in (swept s))
swept_all P s a =
    subst (All P) (sym (swept_after s))
    (moved_all P (map (λ x. x.cell) (freed_by s.row)) (map (λ x. x.cell) (kept_by s.row)) s.free (subst (All P) (swept_before s) a))

pub swept_length : (s : State) → length (cells_in (swept s)) ≡ length (cells_in s)
swept_length s =
    ap length (swept_after s)
    ∙ moved_length (map (λ x. x.cell) (freed_by s.row)) (map (λ x. x.cell) (kept_by s.row)) s.free
    ∙ sym (ap length (swept_before s))

pub swept_occurrences : (s : State) (c : ℕ) → occurrences c (cells_in (swept s)) ≡ occurrences c (cells_in s)
swept_occurrences s c =
    ap (occurrences c) (swept_after s)
    ∙ moved_occurrences c (map (λ x. x.cell) (freed_by s.row)) (map (λ x. x.cell) (kept_by s.row)) s.free
    ∙ sym (ap (occurrences c) (swept_before s))

-- The position

-- the dead front's nodes are dead, and their cells are not the head
pub front_all : (s : State) → Sound s → All (λ x. (x.live ≡ false) × (0 < x.cell)) (dead_front s.row)
front_all s v =
    all_zip (λ x d p. (d, p)) (dead_front s.row) (dead_front-dead s.row)
    (all_left (λ x. 0 < x.cell) (dead_front s.row) (from_live s.row) (subst (All (λ x. 0 < x.cell)) (sym (row_split s.row)) (cells_positive s v)))

-- the new position's key, its standing, and that all up to it are dead
pub swept_key : (s : State) → Sound s → key_of (last_of (dead_front s.row)).cell (head_node ∷ kept_by s.row) ≡ (last_of (dead_front s.row)).key
swept_key s v =
    last_cases (λ z last. key_of z.cell (head_node ∷ (last ++ later)) ≡ z.key) (λ x. (x.live ≡ false) × (0 < x.cell)) (dead_front s.row) (front_all s v)
    (key_of_same 0 head_node later refl)
    (λ z q. key_of_other z.cell head_node (z ∷ later) (λ e. let h = q.1 in omega arith) ∙ key_of_same z.cell z later refl)
  where
    later : List Node
    later = from_live s.row

pub swept_stands : (row : List Node) → 0 < occurrences (last_of (dead_front row)).cell (0 ∷ map (λ x. x.cell) (kept_by row))
swept_stands row =
    last_cases (λ z last. 0 < occurrences z.cell (0 ∷ map (λ x. x.cell) (last ++ later))) (λ x. x.live ≡ false) (dead_front row) (dead_front-dead row)
    (omega (arith, occurrences_here 0 0 cells refl))
    (λ z q. omega (arith, occurrences_more z.cell 0 (z.cell ∷ cells), occurrences_here z.cell z.cell cells refl))
  where
    later : List Node
    later = from_live row

    cells : List ℕ
    cells = map (λ x. x.cell) later

pub swept_dead : (row : List Node) → Asc 0 row → All (λ x. x.key ≤ (last_of (dead_front row)).key → x.live ≡ false) (kept_by row)
swept_dead row a =
    last_cases (λ z last. Asc 0 (last ++ later) → All (λ x. x.key ≤ z.key → x.live ≡ false) (last ++ later)) (λ x. x.live ≡ false) (dead_front row)
    (dead_front-dead row)
    (λ up. all_map (λ x h l. absurd (omega arith)) later (asc_above 0 later up))
    (λ z q up. (λ l. q, all_map (λ x h l. absurd (omega arith)) later (asc_above z.key later up.1)))
    (kept_asc 0 row a)
  where
    later : List Node
    later = from_live row

pub swept_sound : (s : State) → Sound s → Sound (swept s)
unfolding swept
swept_sound s v =
    let kept = kept_by s.row in
    let position = (last_of (dead_front s.row)).cell in
    record {
      ranges = v.ranges;
      base = v.base;
      ascends = asc_changed paid paid_all_keeping 0 kept (kept_asc 0 s.row v.ascends);
      keys = all_mapped (λ x. x.key ≤ s.settings.largest) paid kept (kept_all (λ x. x.key ≤ s.settings.largest) s.row v.keys);
      count = swept_length s ∙ v.count;
      range = swept_all (λ c. (0 < c) × (c < s.settings.cells)) s v.range;
      once = all_map (λ c h. swept_occurrences s c ∙ h) (cells_in (swept s)) (swept_all (λ c. occurrences c (cells_in s) ≡ 1) s v.once);
      values = all_mapped (λ x. x.live ≡ false → x.value ≡ 0) paid kept (kept_all (λ x. x.live ≡ false → x.value ≡ 0) s.row v.values);
      debts = unowing_debts s.settings.base s.settings.dimensions (map paid kept)
          (all_mapped (λ x. x.owes ≡ false) paid kept (all_each (λ x. refl) kept));
      position = subst (λ cs. 0 < occurrences position (0 ∷ cs)) (sym (cells_changed paid paid_all_keeping kept)) (swept_stands s.row);
      dead =
          all_mapped (λ x. x.key ≤ key_of position (head_node ∷ map paid kept) → x.live ≡ false) paid kept
          (subst (λ k. All (λ x. x.key ≤ k → x.live ≡ false) kept) (sym (key_of_head_changed paid paid_all_keeping position kept ∙ swept_key s v))
          (swept_dead s.row v.ascends));
    }
