-- The parts of the check's one loop, on the words: a cell is tested when it is met, by its key, mark, value and path; and once more when its
-- links are put, by those links and its debt. `from` is the least number by which it may have a link: the number by which it was met, or,
-- where the cell read before owes from it, that cell's low.
use Rattle.std.specs.Prelude.{◌≡◌, Bool, true, false, cond, ◌&&◌, ◌||◌, not, List, ℕ, ◌-◌, ◌<◌, eqb, ltb}
use Rattle.meaning.specs.Words.{owed_at, low_at, high_at, link_at, dimensions_at, cells_at, position_at}
use Rattle.account.specs.declared.Seen.{Seen}
use Rattle.account.specs.Tree.{all_from, follows, node_right, links_below, debt_right, agreed_after, path_right, wrong}
use Rattle.account.specs.Pending.{Link, put_from, put_links, followed_all}

-- cell y, met by link e after what has been seen, is right but for its links and its debt
abbrev pub alone_right : List ℕ → ℕ → ℕ → Seen → Bool
alone_right ws y e s =
    ltb 0 s.left && (ltb y (cells_at ws) && (follows ws s.last y e && node_right ws y s.reached))

unfoldable pub met_right : List ℕ → ℕ → ℕ → Seen → Bool
met_right ws y e s = alone_right ws y e s && path_right ws y e s

-- what has been seen once cell y is met by link e
abbrev pub met : List ℕ → ℕ → ℕ → Seen → Seen
met ws y e s =
    record { right = true; left = s.left - 1; last = y; agreed = agreed_after ws y e s; reached = s.reached || eqb y (position_at ws) }

-- its links and its debt are right, x being the cell read before
abbrev pub hangs_right : List ℕ → ℕ → ℕ → ℕ → Bool
hangs_right ws x y e = links_below ws x y e && debt_right ws x y e

-- the links of cell y below number n are 0
unfoldable pub links_none : List ℕ → ℕ → ℕ → Bool
links_none ws y n = all_from (λ d. eqb (link_at ws y d) 0) 0 n

-- cell y owes nothing, and its low and high are 0
unfoldable pub owes_nothing : List ℕ → ℕ → Bool
owes_nothing ws y = eqb (owed_at ws y) 0 && (eqb (low_at ws y) 0 && eqb (high_at ws y) 0)

-- cell y, met by link e, owes: low is e, below high, and its only link is link high, to the owed cell
unfoldable pub owes_right : List ℕ → ℕ → ℕ → Bool
owes_right ws y e =
    not (eqb (owed_at ws y) 0)
    && (eqb (low_at ws y) e
    && (ltb e (high_at ws y)
    && (ltb (high_at ws y) (dimensions_at ws)
    && (ltb (owed_at ws y) (cells_at ws)
    && all_from (λ d. eqb (link_at ws y d) (cond (eqb d (high_at ws y)) (owed_at ws y) 0)) 0 (dimensions_at ws)))))

-- How a cell was met by link e after cell x: by a link of its own number, or, where x owes, by the one link that x has.
pub data Hung (ws : List ℕ) (x e from : ℕ) : Type 0 where
  plain : owed_at ws x ≡ 0 → from ≡ e → Hung ws x e from
  owed : (owed_at ws x ≡ 0 → ⊥) → from ≡ low_at ws x → from < e → e ≡ high_at ws x → Hung ws x e from

-- what is left to do when cell y has been met by link e after cell x, with these links pending
abbrev pub left_over : List ℕ → ℕ → ℕ → ℕ → ℕ → List Link → Seen → Seen
left_over ws x y e from pending s =
    cond (hangs_right ws x y e) (followed_all ws (put_links ws y e (put_from (link_at ws y) from (e - from) pending)) s) (wrong s)

-- The verdict: what has been seen, if that is right.
abbrev pub no_list : Seen
no_list = record { right = false; left = 0; last = 0; agreed = 0; reached = false }

abbrev pub verdict : Seen → Seen
verdict t = cond t.right t no_list
