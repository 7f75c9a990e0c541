-- The check in one loop, on the words: the links that are still to be followed are kept, the one to follow next first. What is followed is a
-- cell's link of the highest number that is pending, so the cells are read in ascending order of keys.
use Rattle.std.specs.Prelude.{cond, List, [], ◌∷◌, ℕ, zero, suc, ◌-◌, eqb}
use Rattle.meaning.specs.Words.{dimensions_at}
use Rattle.meaning.specs.Walk.{link_read}
use Rattle.account.specs.declared.Seen.{Seen}
use Rattle.account.specs.Tree.{wrong, entered}

-- a link that is still to be followed: the cell that it leads to, and its number
pub record Link : Type 0 where
  pub cell : ℕ
  pub number : ℕ

-- a link of number d to cell y put before others, if it leads anywhere
abbrev pub put : ℕ → ℕ → List Link → List Link
put y d pending = cond (eqb y 0) pending (record { cell = y; number = d } ∷ pending)

-- the links of n numbers from d on put before others, link d being `link d`: the highest number comes first
unfoldable pub put_from : (ℕ → ℕ) → ℕ → ℕ → List Link → List Link
put_from link d zero pending = pending
put_from link d (suc n) pending = put_from link (suc d) n (put (link d) d pending)

-- the links of cell x from number d on, read through what it owes
abbrev pub put_links : List ℕ → ℕ → ℕ → List Link → List Link
put_links ws x d pending = put_from (link_read ws x) d (dimensions_at ws - d) pending

-- what has been seen when the first pending link has been followed and then `further` what is pending then; nothing more where none is
abbrev pub followed_on : (List Link → Seen → Seen) → List ℕ → List Link → Seen → Seen
followed_on further ws [] s = s
followed_on further ws (l ∷ pending) s =
    let t = entered ws l.cell l.number s in
    cond t.right (further (put_links ws l.cell l.number pending) t) t

-- what has been seen when all that is pending has been followed, and all that hangs from it; fewer than `fuel` cells are read
unfoldable pub followed : ℕ → List ℕ → List Link → Seen → Seen
followed zero ws pending s = wrong s
followed (suc fuel) ws pending s = followed_on (followed fuel ws) ws pending s

-- .. with cells enough
abbrev pub followed_all : List ℕ → List Link → Seen → Seen
followed_all ws pending s = followed (suc s.left) ws pending s
