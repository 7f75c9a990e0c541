-- Writing the pairs on the way through the standing cells: the pairs of the live nodes in front are written, the later ones are still to
-- come.
use mathlib.Core.Path.{◌≡◌, refl, sym, ap, ap₂, ◌∙◌, subst}
use mathlib.Core.Bool.{Bool, true, false, cond}
use mathlib.Core.List.{List, [], ◌∷◌, ◌++◌, map, append-nil}
use Prim.Native.Nat.{ℕ, suc, ◌+◌, ◌*◌, ◌-◌, ◌≤◌, ◌<◌}
use native.Mathlib.Omega.{arith}
use lib.ListN.{length, get_or, replicate, length-append}
use lib.Seq.{sets, length-sets}
use Rattle.settings.specs.declared.Settings.{Settings}
use Rattle.lists.specs.Lists.{those}
use Rattle.lists.proofs.All.{All, all_map, all_left, all_at}
use Rattle.lists.proofs.Sets.{sets_append}
use Rattle.files.specs.Files.{Pair, pair_bytes}
use Rattle.files.proofs.Written.{pair_bytes_length, pair_bytes_append}
use Rattle.meaning.specs.Row.{Node, head_node, Place, last_of}
use Rattle.meaning.specs.State.{State}
use Rattle.meaning.specs.Picture.{first_with}
use Rattle.meaning.specs.Reading.{read}
use Rattle.meaning.specs.Words.{key_at, value_at, mark_at}
use Rattle.meaning.specs.Operations.{keys_above}
use Rattle.calls.specs.Pairs.{pair, live_pairs}
use Rattle.meaning.specs.Layer.Paths.{path_for, PathOf}
use Rattle.meaning.specs.Layer.Listed.{Listed}
use Rattle.meaning.proofs.Pictures.State.{Sound}
use Rattle.meaning.proofs.Pictures.StateCells.{free_length}
use Rattle.meaning.proofs.Rows.Parent.{all_last}
use Rattle.meaning.proofs.Rows.Places.{last_from_lem}
use Rattle.meaning.proofs.Cells.Placed.{Placed, placed_key_of, head_placed, place_key, place_value, mark_one, mark_other}
use Rattle.meaning.proofs.BothWays.SentencesShape.{HasPlace, row_placed}
use Rattle.meaning.proofs.Written.InsertSlot.{placed_occurs}
use Rattle.meaning.proofs.Pictures.ReadBack.{first_in}
use Rattle.meaning.proofs.Paths.Path.{path_for-at}
use Rattle.meaning.proofs.Paths.PathNext.{way_key}
use Rattle.meaning.proofs.Paths.PathTake.{above_later}
use Rattle.words.proofs.Listed.{on_listed}
use Rattle.paths.specs.declared.path.Path.{Path}
use Rattle.paths.specs.declared.NextCell.{NextCell}
use Rattle.paths.specs.Paths.{path_of, PathIn, NoneNext, NextWith}
use Rattle.paths.proofs.Ways.{head_starts, way_in, MovesOn, moves_on, moves_end}
use Rattle.write_file.proofs.Counting.{live_ones}

-- The pairs of the live ones of some nodes

abbrev pub pairs_of : List Node → List Pair
pairs_of row = map pair (live_ones row)

pairs_append : (front later : List Node) → pairs_of (front ++ later) ≡ pairs_of front ++ pairs_of later
unfolding those
pairs_append [] later = refl
pairs_append (x ∷ front) later = at x.live (pairs_append front later)
  where
    all : List Node
    all = live_ones (front ++ later)

    at : (t : Bool) → pairs_of (front ++ later) ≡ pairs_of front ++ pairs_of later →
        map pair (cond t (x ∷ all) all) ≡ map pair (cond t (x ∷ live_ones front) (live_ones front)) ++ pairs_of later
    at true e = ap (λ (r : List Pair). pair x ∷ r) e
    at false e = e

pairs_live :
    (front : List Node) (y : Node) (later : List Node) → y.live ≡ true → pairs_of (front ++ (y ∷ later)) ≡ pairs_of front ++ (pair y ∷ pairs_of later)
unfolding those
pairs_live front y later e = pairs_append front (y ∷ later) ∙ rw e refl

-- a live node behind some others gives one pair more, a dead one none
pairs_more : (front : List Node) (y : Node) → y.live ≡ true → pairs_of (front ++ (y ∷ [])) ≡ pairs_of front ++ (pair y ∷ [])
unfolding those
pairs_more front y e = pairs_live front y [] e

pairs_same : (front : List Node) (y : Node) → y.live ≡ false → pairs_of (front ++ (y ∷ [])) ≡ pairs_of front
unfolding those
pairs_same front y e = pairs_append front (y ∷ []) ∙ rw e (append-nil (pairs_of front))

-- one pair more, behind those that are written
pair_more :
    (l : List ℕ) (f : ℕ) (pairs : List Pair) (p : Pair) {i : ℕ} → i ≡ length pairs →
    sets (sets l f (pair_bytes pairs)) (f + 8 * i) (pair_bytes (p ∷ [])) ≡ sets l f (pair_bytes (pairs ++ (p ∷ [])))
pair_more l f pairs p {i} e =
    let there : f + 8 * i ≡ f + length (pair_bytes pairs) = omega (arith, pair_bytes_length pairs) in
    rw (there, pair_bytes_append pairs (p ∷ [])) (sym (sets_append l (pair_bytes pairs) (pair_bytes (p ∷ [])) f))

-- How far the way has come

-- the last word of the path of a key
abbrev last_word : State → ℕ → ℕ
last_word t key = get_or (path_for t.settings.base t.settings.dimensions t.row key) (t.settings.dimensions - 1) 0

-- .. is the cell with that key
path_ends : {t : State} → Sound t → {x : ℕ} {p : Place} → Placed t x p → last_word t p.node.key ≡ x
path_ends {t} v {x} {p} here =
    let b = t.settings.base in
    let D = t.settings.dimensions in
    let least = v.ranges.dimensions_least in
    let all : suc (D - 1) ≡ D = omega arith in
    path_for-at b D t.row p.node.key (D - 1) (omega arith)
    ∙ ap₂ (λ n key. first_with b D key n (head_node ∷ t.row)) all (sym (placed_key_of here))
    ∙ first_in b D x head_node t.row (omega arith) v.ascends (placed_occurs here)

way_ends :
    {t : State} → Sound t → {path : List ℕ} {front later : List Node} → PathOf t path front later →
    get_or path (t.settings.dimensions - 1) 0 ≡ (last_of front).cell
way_ends {t} v {path} {front} {later} w =
    let Own : Node → Type 0 = λ y. last_word t y.key ≡ y.cell in
    let row = all_map (λ y p. subst (λ z. last_word t z.key ≡ y.cell) p.node (path_ends v p.placed)) t.row (row_placed v) in
    let fronts = all_left Own front later (subst (All Own) w.split row) in
    rw (w.is, last_from_lem front) (all_last Own head_node front (path_ends v (head_placed t)) fronts)

-- how many keys are above that of a path's cell: those still to come
abbrev pub keys_ahead : List ℕ → Settings → Path → ℕ
keys_ahead ws s p = keys_above (key_at ws (get_or (path_of p) (s.dimensions - 1) 0)) (read ws).row

ahead_is :
    {ws : List ℕ} {s : Settings} → Listed ws s → (p : Path) {front later : List Node} → PathOf (read ws) (path_of p) front later →
    keys_ahead ws s p ≡ length later
ahead_is h p {front} {later} =
    on_listed
    (λ t ws s. PathOf t (path_of p) front later → keys_above (key_at ws (get_or (path_of p) (s.dimensions - 1) 0)) t.row ≡ length later)
    (λ t v w. rw (way_ends v w, way_key v w) (above_later v w)) h

-- The pair of a node, by the words of its cell

pub record PairThere (ws : List ℕ) (y : Node) : Type 0 where
  pub key : key_at ws y.cell ≡ y.key
  pub value : value_at ws y.cell ≡ y.value

pair_there :
    {ws : List ℕ} {s : Settings} → Listed ws s → (front : List Node) (y : Node) (later : List Node) → (read ws).row ≡ front ++ (y ∷ later) →
    PairThere ws y
pair_there h front y later =
    on_listed (λ t ws s. t.row ≡ front ++ (y ∷ later) → PairThere ws y)
    (λ t v split.
    let there = all_at (HasPlace t) front y later (subst (All (HasPlace t)) split (row_placed v)) in
    record {
      key = place_key v there.placed ∙ ap (λ z. z.key) there.node;
      value = place_value v there.placed ∙ ap (λ z. z.value) there.node;
    })
    h

-- The turns

-- the path has come past the nodes in front, whose i live ones' pairs are written from place f on; they and those still to come are fewer
-- than C
pub record Writing (ws : List ℕ) (s : Settings) (f : ℕ) (entry file : List ℕ) (p : Path) (i : ℕ) : Type 0 where
  pub front : List Node
  pub later : List Node
  pub on_way : PathOf (read ws) (path_of p) front later
  pub path_in : PathIn s p
  pub bytes : file ≡ sets entry f (pair_bytes (pairs_of front))
  pub count : i ≡ length (pairs_of front)
  pub room : i + length later < s.cells

pub writing_start :
    {ws : List ℕ} {s : Settings} {p : Path} → Listed ws s → path_of p ≡ replicate s.dimensions 0 → p.used ≡ s.dimensions →
    (f : ℕ) (file : List ℕ) → Writing ws s f file file p 0
unfolding those pair_bytes
writing_start {ws} h is used f file =
    let w = head_starts h is in
    record {
      front = [];
      later = (read ws).row;
      on_way = w;
      path_in = way_in h used w;
      bytes = refl;
      count = refl;
      room = on_listed (λ t ws s. 0 + length t.row < s.cells) (λ t v. omega (arith, v.ranges.cells_least, free_length t v)) h;
    }

pub writing_length : {ws : List ℕ} {s : Settings} {f : ℕ} {entry file : List ℕ} {p : Path} {i : ℕ} → Writing ws s f entry file p i → length file ≡ length entry
writing_length {f = f} {entry = entry} g = ap length g.bytes ∙ length-sets entry f (pair_bytes (pairs_of g.front))

module _ {ws : List ℕ} {s : Settings} (h : Listed ws s) {f : ℕ} {entry file : List ℕ} {p : Path} {i : ℕ} (g : Writing ws s f entry file p i) where
  -- all are written
  pub writing_end : NoneNext ws s (path_of p) → file ≡ sets entry f (pair_bytes (live_pairs ws))
  writing_end none =
      let all : (read ws).row ≡ g.front =
      g.on_way.split ∙ ap (λ l. g.front ++ l) (moves_end h none g.later g.on_way) ∙ append-nil g.front in
      g.bytes ∙ ap (λ row. sets entry f (pair_bytes (pairs_of row))) (sym all)

  module _ {r : NextCell} {q : Path} (n : NextWith ws s p r q) where
    on : MovesOn (read ws) ws s (path_of p) g.front g.later r
    on = moves_on h n.at g.later g.on_way

    further : PathOf (read ws) (path_of q) (g.front ++ (on.node ∷ [])) on.rest
    further = on.to.way n.way

    split : (read ws).row ≡ g.front ++ (on.node ∷ on.rest)
    split = g.on_way.split ∙ ap (λ l. g.front ++ l) on.next

    pub writing_less : keys_ahead ws s q < keys_ahead ws s p
    writing_less = omega (arith, ahead_is h q further, ahead_is h p g.on_way, ap length on.next)

    module _ {mark : ℕ} (is : mark ≡ mark_at ws r.cell) where
      pub writing_past : (mark ≡ 1 → ⊥) → Writing ws s f entry file q i
      writing_past other =
          let y = on.node in
          let same = pairs_same g.front y (mark_other y.live (λ e. other (is ∙ on.to.mark ∙ e))) in
          record {
            front = g.front ++ (y ∷ []);
            later = on.rest;
            on_way = further;
            path_in = n.path_in;
            bytes = g.bytes ∙ ap (λ pairs. sets entry f (pair_bytes pairs)) (sym same);
            count = g.count ∙ ap length (sym same);
            room = omega (arith, g.room, ap length on.next);
          }

      module _ (one : mark ≡ 1) where
        live : on.node.live ≡ true
        live = mark_one on.node.live (sym on.to.mark ∙ sym is ∙ one)

        -- there is room for the pair
        pub writing_room : {m : ℕ} → m ≡ length (live_pairs ws) → f + 8 * m ≤ length entry → f + 8 * (i + 1) ≤ length file
        writing_room count room =
            let all = ap pairs_of split ∙ pairs_live g.front on.node on.rest live in
            let long = ap length all ∙ length-append (pairs_of g.front) (pair on.node ∷ pairs_of on.rest) in
            omega (arith, room, count, writing_length g, g.count, long)

        pub writing_here :
            {key value : ℕ} {after : List ℕ} → key ≡ key_at ws r.cell → value ≡ value_at ws r.cell →
            after ≡ sets file (f + 8 * i) (pair_bytes (record { key = key; value = value } ∷ [])) → Writing ws s f entry after q (i + 1)
        writing_here {key} {value} {after} is_key is-value written =
            let y = on.node in
            let there = pair_there h g.front y on.rest split in
            let is-pair : ◌≡◌ {A = Pair} (record { key = key; value = value }) (pair y) =
            ap₂ {C = Pair} (λ k v. record { key = k; value = v }) (is_key ∙ ap (key_at ws) on.to.cell ∙ there.key)
            (is-value ∙ ap (value_at ws) on.to.cell ∙ there.value) in
            let more = pairs_more g.front y live in
            record {
              front = g.front ++ (y ∷ []);
              later = on.rest;
              on_way = further;
              path_in = n.path_in;
              bytes =
                  written
                  ∙ ap₂ (λ l q. sets l (f + 8 * i) (pair_bytes (q ∷ []))) g.bytes is-pair
                  ∙ pair_more entry f (pairs_of g.front) (pair y) g.count
                  ∙ ap (λ pairs. sets entry f (pair_bytes pairs)) (sym more);
              count = omega (arith, g.count, ap length more, length-append (pairs_of g.front) (pair y ∷ []));
              room = omega (arith, g.room, ap length on.next);
            }
