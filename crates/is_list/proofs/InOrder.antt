-- The cells in order, as the code reads them: the path's words beside the way down, a cell that is met, and the links that are put.
use mathlib.Core.Path.{◌≡◌, refl, sym, ap, ap₂, ◌∙◌, subst}
use mathlib.Core.Bool.{Bool, true, false, cond, ◌&&◌, not, or-true, false≢true}
use mathlib.Core.List.{List, [], ◌∷◌}
use Prim.Native.Nat.{ℕ, zero, suc, ◌+◌, ◌-◌, ◌≤◌, ◌<◌}
use native.Mathlib.Decide.{ℕ_discrete}
use native.Mathlib.Numerals.{add-one}
use native.Mathlib.Omega.{arith}
use lib.Dec.{eqb}
use lib.ListN.{length, get_or, set}
use lib.Seq.{get_or-set_same, get_or-set_other}
use borrow.Author.Tests.{eqb-true, lt-ltb, le-ltb, eq-eqb, ne_eqb}
use Rattle.settings.specs.Numbers.{header_words}
use Rattle.settings.specs.declared.Settings.{Settings}
use Rattle.lists.proofs.Tests.{both}
use Rattle.meaning.specs.Words.{owed_at, high_at, link_at, dimensions_at, position_at}
use Rattle.words.specs.Shaped.{Shaped}
use Rattle.words.proofs.Shaped.{shaped_dimensions, shaped_cells}
use Rattle.account.specs.declared.Seen.{Seen}
use Rattle.account.specs.Tree.{path_run, agreed_at, wrong}
use Rattle.account.specs.Pending.{Link, put_from, followed, followed_all}
use Rattle.account.specs.Loop.{alone_right, met_right, met, links_none, owes_nothing, owes_right, Hung, plain, owed, left_over, no_list, verdict}
use Rattle.account.proofs.Following.{put_once}
use Rattle.account.proofs.Loop.{put_zero, owes_none, owes_told, links_wrong, goes_free, debt_wrong, goes_owing, met_wrong, met_goes}
use Rattle.cell_tests.proofs.OneCell.{alone}
use Rattle.is_list.specs.Standing.{SeenWithin, Entered, pending_of, Pending, owing_next, GoesOn, NextIs, Started}
use Rattle.is_list.specs.declared.standing.Way.{Way}
use Rattle.is_list.specs.declared.standing.Next.{Next}
use Rattle.is_list.specs.declared.standing.Next.TheVariants.{Wrong, End, Goes}

-- The path

module _ (ws : List ℕ) (y : ℕ) {i n : ℕ} where
  pub run_next : i < n → get_or ws (header_words + i) 0 ≡ y → path_run ws y i (n - i) ≡ path_run ws y (i + 1) (n - (i + 1))
  unfolding path_run
  run_next h e =
      let k : n - i ≡ suc (n - (i + 1)) = omega arith in
      rw (k, eq-eqb (get_or ws (header_words + i) 0) y e, add-one i) refl

  pub run_ends : i < n → (get_or ws (header_words + i) 0 ≡ y → ⊥) → path_run ws y i (n - i) ≡ i
  unfolding path_run
  run_ends h other =
      let k : n - i ≡ suc (n - (i + 1)) = omega arith in
      rw (k, ne_eqb (get_or ws (header_words + i) 0) y other) refl

  pub run_all : n ≤ i → path_run ws y i (n - i) ≡ i
  unfolding path_run
  run_all h =
      let k : n - i ≡ 0 = omega arith in
      rw k refl

-- .. as the loop over the path's words goes
pub ruleset run_turns = (run_next, run_ends, run_all)

pub agreed_before : (ws : List ℕ) (y : ℕ) {e agreed : ℕ} → agreed < e → agreed_at ws y e agreed ≡ agreed
unfolding agreed_at
agreed_before ws y {e} {agreed} h = rw (lt-ltb agreed e h) refl

pub agreed_run :
    {ws : List ℕ} {s : Settings} → Shaped ws s → (y : ℕ) {e agreed : ℕ} → e ≤ agreed →
    agreed_at ws y e agreed ≡ path_run ws y e (s.dimensions - e)
unfolding agreed_at
agreed_run h y {e} {agreed} le = rw (le-ltb agreed e le, shaped_dimensions h) refl

-- A cell is met

module _ (ws : List ℕ) (y e : ℕ) (seen : Seen) where
  met_lone : alone_right ws y e seen ≡ false → met_right ws y e seen ≡ false
  unfolding met_right
  met_lone f = rw f refl

  met_past : alone_right ws y e seen ≡ true → seen.reached ≡ true → met_right ws y e seen ≡ true
  unfolding met_right
  met_past h past = rw (h, past) refl

  met_lost :
      alone_right ws y e seen ≡ true → seen.reached ≡ false → y ≡ position_at ws → (agreed_at ws y e seen.agreed ≡ dimensions_at ws → ⊥) →
      met_right ws y e seen ≡ false
  unfolding met_right
  met_lost h before here off =
      rw (h, before, eq-eqb y (position_at ws) here, ne_eqb (agreed_at ws y e seen.agreed) (dimensions_at ws) off) refl

  met_position :
      alone_right ws y e seen ≡ true → seen.reached ≡ false → agreed_at ws y e seen.agreed ≡ dimensions_at ws → met_right ws y e seen ≡ true
  unfolding met_right
  met_position h before on =
      rw (h, before, eq-eqb (agreed_at ws y e seen.agreed) (dimensions_at ws) on, or-true (not (eqb y (position_at ws)))) refl

  met_other : alone_right ws y e seen ≡ true → seen.reached ≡ false → (y ≡ position_at ws → ⊥) → met_right ws y e seen ≡ true
  unfolding met_right
  met_other h before other = rw (h, before, ne_eqb y (position_at ws) other) refl

module _ {ws : List ℕ} {s : Settings} (h : Shaped ws s) (y e : ℕ) (seen : Seen) where
  entered_wrong : {r : Seen} → r ≡ wrong seen → met_right ws y e seen ≡ false → Entered ws s y e seen r
  entered_wrong p q =
      rw p
      (record {
        right = sym q;
        is = λ t. absurd (false≢true t);
        within = λ t. absurd (false≢true t);
        falls = λ t. absurd (false≢true t);
      })

  pub enter_not : {r : Seen} → alone_right ws y e seen ≡ false → r ≡ wrong seen → Entered ws s y e seen r
  enter_not f p = entered_wrong p (met_lone ws y e seen f)

  pub enter_lost :
      {r : Seen} → alone_right ws y e seen ≡ true → seen.reached ≡ false → y ≡ position_at ws →
      (agreed_at ws y e seen.agreed ≡ dimensions_at ws → ⊥) → r ≡ wrong seen → Entered ws s y e seen r
  enter_lost t before here off p = entered_wrong p (met_lost ws y e seen t before here off)

  entered_right :
      {agreed : ℕ} {reached : Bool} → alone_right ws y e seen ≡ true → agreed ≤ s.dimensions → met_right ws y e seen ≡ true →
      record { right = true; left = seen.left - 1; last = y; agreed = agreed; reached = reached } ≡ met ws y e seen →
      Entered ws s y e seen (record { right = true; left = seen.left - 1; last = y; agreed = agreed; reached = reached })
  entered_right t fits q is =
      let a = alone ws y e seen t in
      let inside = a.inside in
      let some = a.left in
      record {
        right = sym q;
        is = λ r. is;
        within = λ r. record { last = omega (arith, shaped_cells h); agreed = fits };
        falls = λ r. omega arith;
      }

  pub enter_past :
      alone_right ws y e seen ≡ true → seen.reached ≡ true → seen.agreed ≤ s.dimensions →
      Entered ws s y e seen (record { right = true; left = seen.left - 1; last = y; agreed = seen.agreed; reached = seen.reached })
  enter_past t past fits = entered_right t fits (met_past ws y e seen t past) (rw past refl)

  pub enter_position :
      {agreed : ℕ} → alone_right ws y e seen ≡ true → seen.reached ≡ false → y ≡ position_at ws → agreed ≡ agreed_at ws y e seen.agreed →
      agreed ≤ s.dimensions → agreed ≡ dimensions_at ws →
      Entered ws s y e seen (record { right = true; left = seen.left - 1; last = y; agreed = agreed; reached = true })
  enter_position {agreed} t before here q fits on =
      entered_right t fits (met_position ws y e seen t before (sym q ∙ on)) (rw (before, ← q, eq-eqb y (position_at ws) here) refl)

  pub enter_other :
      {agreed : ℕ} → alone_right ws y e seen ≡ true → seen.reached ≡ false → (y ≡ position_at ws → ⊥) → agreed ≡ agreed_at ws y e seen.agreed →
      agreed ≤ s.dimensions → Entered ws s y e seen (record { right = true; left = seen.left - 1; last = y; agreed = agreed; reached = seen.reached })
  enter_other {agreed} t before other q fits =
      entered_right t fits (met_other ws y e seen t before other) (rw (before, ← q, ne_eqb y (position_at ws) other) refl)

-- .. the ways in which a cell is met
pub ruleset enter_cases = (enter_not, enter_lost, enter_past, enter_position, enter_other)

-- Links that are put, one after the other

-- entries past the pending ones are not read
pending_past : (cells numbers : List ℕ) (n y d k : ℕ) → k ≤ n → pending_of (set cells n y) (set numbers n d) k ≡ pending_of cells numbers k
unfolding pending_of
pending_past cells numbers n y d zero h = refl
pending_past cells numbers n y d (suc k) h =
    rw (
      get_or-set_other cells n k y 0 (λ e. omega arith),
      get_or-set_other numbers n k d 0 (λ e. omega arith),
      pending_past cells numbers n y d k (omega arith),
    )
    refl

module _ (link : ℕ → ℕ) {d D : ℕ} (pending : List Link) where
  pub put_ends : D ≤ d → put_from link d (D - d) pending ≡ pending
  unfolding put_from
  put_ends h =
      let k : D - d ≡ 0 = omega arith in
      rw k refl

  put_next : d < D → put_from link d (D - d) pending ≡ put_from link (d + 1) (D - (d + 1)) (cond (eqb (link d) 0) pending (record { cell = link d; number = d } ∷ pending))
  put_next h =
      let k : D - d ≡ suc (D - (d + 1)) = omega arith in
      ap (λ m. put_from link d m pending) k ∙ put_once link d (D - (d + 1)) pending
      ∙ ap (λ i. put_from link i (D - (d + 1)) (cond (eqb (link d) 0) pending (record { cell = link d; number = d } ∷ pending))) (sym (add-one d))

  pub put_passes : d < D → link d ≡ 0 → put_from link d (D - d) pending ≡ put_from link (d + 1) (D - (d + 1)) pending
  put_passes h e =
      put_next h
      ∙ ap (λ t. put_from link (d + 1) (D - (d + 1)) (cond t pending (record { cell = link d; number = d } ∷ pending))) (eq-eqb (link d) 0 e)

  put_first : d < D → (link d ≡ 0 → ⊥) →
      put_from link d (D - d) pending ≡ put_from link (d + 1) (D - (d + 1)) (record { cell = link d; number = d } ∷ pending)
  put_first h some =
      put_next h
      ∙ ap (λ t. put_from link (d + 1) (D - (d + 1)) (cond t pending (record { cell = link d; number = d } ∷ pending))) (ne_eqb (link d) 0 some)

-- a link is put after the pending ones
pending_more : (cells numbers : List ℕ) (n y d : ℕ) → n < length cells → n < length numbers →
    pending_of (set cells n y) (set numbers n d) (n + 1) ≡ record { cell = y; number = d } ∷ pending_of cells numbers n
unfolding pending_of
pending_more cells numbers n y d h l =
    rw (add-one n, get_or-set_same cells n y 0 h, get_or-set_same numbers n d 0 l, pending_past cells numbers n y d n (omega arith)) refl

pub put_goes : (link : ℕ → ℕ) {d D y n : ℕ} (cells numbers : List ℕ) → d < D → y ≡ link d → (y ≡ 0 → ⊥) → n < length cells → n < length numbers →
    put_from link d (D - d) (pending_of cells numbers n) ≡ put_from link (d + 1) (D - (d + 1)) (pending_of (set cells n y) (set numbers n d) (n + 1))
put_goes link {d} {D} {y} {n} cells numbers h is some hc hn =
    put_first link (pending_of cells numbers n) h (λ z. some (is ∙ z))
    ∙ ap (put_from link (d + 1) (D - (d + 1))) (sym (pending_more cells numbers n y d hc hn ∙ ap (λ c. record { cell = c; number = d } ∷ pending_of cells numbers n) is))

pub ranked_goes : (s : Settings) (numbers : List ℕ) (n d : ℕ) → n < length numbers → n ≤ d → d < s.dimensions →
    ((i : ℕ) → i < n → (i ≤ get_or numbers i 0) × (get_or numbers i 0 < s.dimensions)) → (i : ℕ) → i < n + 1 →
    (i ≤ get_or (set numbers n d) i 0) × (get_or (set numbers n d) i 0 < s.dimensions)
ranked_goes s numbers n d h few below ranked i l = at (ℕ_discrete i n)
  where
    at : Dec (i ≡ n) → (i ≤ get_or (set numbers n d) i 0) × (get_or (set numbers n d) i 0 < s.dimensions)
    at (yes e) = rw (e, get_or-set_same numbers n d 0 h) (few, below)
    at (no ne) = rw (get_or-set_other numbers n i d 0 ne) (ranked i (omega arith))

none_pending : (cells numbers : List ℕ) → pending_of cells numbers 0 ≡ []
unfolding pending_of
none_pending cells numbers = refl

top_pending : (cells numbers : List ℕ) (top : ℕ) →
    pending_of cells numbers (suc top) ≡ record { cell = get_or cells top 0; number = get_or numbers top 0 } ∷ pending_of cells numbers top
unfolding pending_of
top_pending cells numbers top = refl

-- A cell that owes

module _ (ws : List ℕ) (x e from count : ℕ) where
  pub owing_elsewhere : (from ≡ e → ⊥) → Wrong ≡ owing_next ws x e from count
  owing_elsewhere other = rw (ne_eqb from e other) refl

  pub owing_not : from ≡ e → owes_right ws x e ≡ false → Wrong ≡ owing_next ws x e from count
  owing_not same f = rw (eq-eqb from e same, f) refl

  pub owing_goes : {cell number : ℕ} → from ≡ e → owes_right ws x e ≡ true → cell ≡ owed_at ws x → number ≡ high_at ws x →
      Goes (record { cell = cell; number = number; from = e; count = count }) ≡ owing_next ws x e from count
  owing_goes same t p q = rw (eq-eqb from e same, t, p, q) refl

-- What comes after a cell

module _ {ws : List ℕ} {s : Settings} (h : Shaped ws s) (y e from : ℕ) (inside : e < s.dimensions) (pending : List Link) (cells numbers : List ℕ) where
  within : e ≤ dimensions_at ws
  within = omega (arith, shaped_dimensions h)

  pub next_links : links_none ws y from ≡ false → NextIs ws s y e from pending Wrong cells numbers
  next_links f =
      record {
        wrong = λ r x hung t. links_wrong ws hung y within pending t f;
        end = λ r. absurd (let z : ◌≡◌ {A = ℕ} 0 1 = cc in omega arith);
        goes = λ w r. absurd (let z : ◌≡◌ {A = ℕ} 0 1 = cc in omega arith);
      }

  module _ (links : links_none ws y from ≡ true) where
    -- it owes
    pub next_owing : {count : ℕ} {r : Next} → pending ≡ pending_of cells numbers count → Pending s cells numbers count from → owes_nothing ws y ≡ false →
        r ≡ owing_next ws y e from count → NextIs ws s y e from pending r cells numbers
    next_owing {count} same pends some is = rw is (at (eqb from e && owes_right ws y e) refl)
      where
        way : Way
        way = record { cell = owed_at ws y; number = high_at ws y; from = e; count = count }

        at : (t : Bool) → eqb from e && owes_right ws y e ≡ t → NextIs ws s y e from pending (cond t (Goes way) Wrong) cells numbers
        at false f =
            record {
              wrong = λ r x hung t. debt_wrong ws hung y within pending t links some f;
              end = λ r. absurd (let z : ◌≡◌ {A = ℕ} 0 1 = cc in omega arith);
              goes = λ w r. absurd (let z : ◌≡◌ {A = ℕ} 0 1 = cc in omega arith);
            }
        at true f =
            let (q, owes) = both (eqb from e) (owes_right ws y e) f in
            let equal = eqb-true from e q in
            let o = owes_told ws y e owes in
            let high = o.inside in
            let low = o.high in
            record {
              wrong = λ r. absurd (let z : ◌≡◌ {A = ℕ} 0 1 = cc in omega arith);
              end = λ r. absurd (let z : ◌≡◌ {A = ℕ} 0 1 = cc in omega arith);
              goes = λ w r.
                  let way_is : way ≡ w = cc in
                  subst (λ v. GoesOn ws s y e from pending v cells numbers) way_is
                  (record {
                    hung = owed o.some (sym o.low) low refl;
                    number = omega (arith, shaped_dimensions h);
                    pends =
                        record {
                          cells_long = pends.cells_long;
                          numbers_long = pends.numbers_long;
                          few = omega (arith, pends.few);
                          ranked = pends.ranked;
                        };
                    rest = λ x hung t.
                        goes_owing ws hung y within pending t links some equal owes
                        ∙ ap (λ p. followed_all ws (record { cell = owed_at ws y; number = high_at ws y }
                        ∷ put_from (link_at ws (owed_at ws y)) e (high_at ws y - e) p) t) same;
                  });
            }

    -- it owes nothing: its links are put
    module _ (none : owes_nothing ws y ≡ true) {n : ℕ} (put : pending_of cells numbers n ≡ put_from (link_at ws y) from (s.dimensions - from) pending)
        (pends : Pending s cells numbers n s.dimensions) where
      left : (x : ℕ) → Hung ws x e from → (t : Seen) → left_over ws x y e from pending t ≡ followed_all ws (pending_of cells numbers n) t
      left x hung t =
          goes_free ws hung y within pending t links none
          ∙ ap (λ m. followed_all ws (put_from (link_at ws y) from (m - from) pending) t) (shaped_dimensions h) ∙ ap (λ p. followed_all ws p t) (sym put)

      pub next_ends : n ≡ 0 → NextIs ws s y e from pending End cells numbers
      next_ends z =
          record {
            wrong = λ r. absurd (let z : ◌≡◌ {A = ℕ} 0 1 = cc in omega arith);
            end = λ r x hung t. left x hung t ∙ ap (λ m. followed_all ws (pending_of cells numbers m) t) z ∙ ap (λ p. followed_all ws p t) (none_pending cells numbers);
            goes = λ w r. absurd (let z : ◌≡◌ {A = ℕ} 0 1 = cc in omega arith);
          }

      pub next_goes : {top : ℕ} → n ≡ suc top →
          NextIs ws s y e from pending (Goes (record { cell = get_or cells top 0; number = get_or numbers top 0; from = get_or numbers top 0; count = top })) cells numbers
      next_goes {top} is =
          let ranked = pends.ranked top (omega arith) in
          let number = get_or numbers top 0 in
          let way : Way = record { cell = get_or cells top 0; number = number; from = number; count = top } in
          let zero_left : number - number ≡ 0 = omega arith in
          record {
            wrong = λ r. absurd (let z : ◌≡◌ {A = ℕ} 0 1 = cc in omega arith);
            end = λ r. absurd (let z : ◌≡◌ {A = ℕ} 0 1 = cc in omega arith);
            goes = λ w r.
                let way_is : way ≡ w = cc in
                subst (λ v. GoesOn ws s y e from pending v cells numbers) way_is
                (record {
                  hung = plain (owes_none ws y none) refl;
                  number = ranked.1;
                  pends =
                      record {
                        cells_long = pends.cells_long;
                        numbers_long = pends.numbers_long;
                        few = ranked.0;
                        ranked = λ i l. pends.ranked i (omega arith);
                      };
                  rest = λ x hung t.
                      left x hung t ∙ ap (λ m. followed_all ws (pending_of cells numbers m) t) is
                      ∙ ap (λ p. followed_all ws p t) (top_pending cells numbers top)
                      ∙ ap (λ p. followed_all ws (record { cell = get_or cells top 0; number = number } ∷ p) t)
                      (sym (ap (λ m. put_from (link_at ws (get_or cells top 0)) number m (pending_of cells numbers top)) zero_left
                      ∙ put_zero (link_at ws (get_or cells top 0)) number (pending_of cells numbers top)));
                });
          }

-- The loop

-- where it has come to: cell `seen.last` has been met by link e after cell x, and what is left to do there comes to the verdict of all of it
pub record Reading (ws : List ℕ) (s : Settings) (start : Seen) (cells numbers : List ℕ) (count e from : ℕ) (seen : Seen) : Type 0 where
  pub before : ℕ
  pub hung : Hung ws before e from
  pub number : e < s.dimensions
  pub pends : Pending s cells numbers count from
  pub right : seen.right ≡ true
  pub within : SeenWithin s seen
  pub same : verdict (left_over ws 0 0 0 0 [] start) ≡ verdict (left_over ws before seen.last e from (pending_of cells numbers count) seen)

pub reading_starts : {ws : List ℕ} {s : Settings} {start : Seen} → Started ws s start → (cells numbers : List ℕ) → length cells ≡ 16 → length numbers ≡ 16 →
    Reading ws s start cells numbers 0 0 0 start
reading_starts {ws} {s} {start = start} k cells numbers hc hn =
    record {
      before = 0;
      hung = plain k.unowing refl;
      number = omega (arith, k.shaped.dimensions_least);
      pends = record { cells_long = hc; numbers_long = hn; few = omega arith; ranked = λ i l. absurd (omega arith) };
      right = k.right;
      within = k.within;
      same = ap₂ (λ y p. verdict (left_over ws 0 y 0 0 p start)) (sym k.head) (sym (none_pending cells numbers));
    }

followed_none : (ws : List ℕ) (t : Seen) → followed_all ws [] t ≡ t
unfolding followed
followed_none ws t = refl

wrong_verdict : (t : Seen) → t.right ≡ false → verdict t ≡ no_list
wrong_verdict t f = ap (λ r. cond r t no_list) f

module _ {ws : List ℕ} {s : Settings} {start : Seen} {cells numbers : List ℕ} {count e from : ℕ} {seen : Seen}
    (k : Reading ws s start cells numbers count e from seen) {r : Next} {cells' numbers' : List ℕ}
    (n : NextIs ws s seen.last e from (pending_of cells numbers count) r cells' numbers') where
  pub reading_wrong : {t : Seen} → r ≡ Wrong → t ≡ wrong seen → verdict t ≡ verdict (left_over ws 0 0 0 0 [] start)
  reading_wrong is p = ap verdict p ∙ sym (k.same ∙ n.wrong is k.before k.hung seen)

  pub reading_ends : r ≡ End → verdict seen ≡ verdict (left_over ws 0 0 0 0 [] start)
  reading_ends is = sym (k.same ∙ ap verdict (n.end is k.before k.hung seen ∙ followed_none ws seen))

  module _ (w : Way) (is : r ≡ Goes w) {next : Seen} (entered : Entered ws s w.cell w.number seen next) where
    goes : GoesOn ws s seen.last e from (pending_of cells numbers count) w cells' numbers'
    goes = n.goes w is

    abbrev others : List Link
    others = put_from (link_at ws w.cell) w.from (w.number - w.from) (pending_of cells' numbers' w.count)

    onward : verdict (left_over ws 0 0 0 0 [] start) ≡ verdict (followed_all ws (record { cell = w.cell; number = w.number } ∷ others) seen)
    onward = k.same ∙ ap verdict (goes.rest k.before k.hung seen)

    pub reading_refused : next.right ≡ false → verdict next ≡ verdict (left_over ws 0 0 0 0 [] start)
    reading_refused f =
        wrong_verdict next f ∙ sym (onward ∙ met_wrong ws w.cell w.number others seen (sym entered.right ∙ f))

    pub reading_goes : next.right ≡ true → Reading ws s start cells' numbers' w.count w.number w.from next
    reading_goes t =
        record {
          before = seen.last;
          hung = goes.hung;
          number = goes.number;
          pends = goes.pends;
          right = t;
          within = entered.within t;
          same =
              onward ∙ met_goes ws w.cell w.number others seen (sym entered.right ∙ t) (pending_of cells' numbers' w.count) w.from refl
              ∙ ap (λ u. verdict (left_over ws seen.last u.last w.number w.from (pending_of cells' numbers' w.count) u)) (sym (entered.is t));
        }

-- What a verdict says

verdict_is : (t : Seen) → (verdict t).right ≡ t.right
verdict_is t = at t.right refl
  where
    at : (r : Bool) → t.right ≡ r → (cond r t no_list).right ≡ r
    at true e = e
    at false e = refl

pub verdict_right : (r t : Seen) → verdict r ≡ verdict t → r.right ≡ t.right
verdict_right r t e = sym (verdict_is r) ∙ ap (λ (u : Seen). u.right) e ∙ verdict_is t

pub verdict_same : (r t : Seen) → verdict r ≡ verdict t → r.right ≡ true → r ≡ t
verdict_same r t e right =
    sym (ap (λ b. cond b r no_list) right) ∙ e ∙ ap (λ b. cond b t no_list) (sym (verdict_right r t e) ∙ right)
