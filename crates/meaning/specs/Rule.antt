-- The rule for looked, over the standing keys and with no link and no search: Looked and the walk 4.
use Rattle.std.specs.Prelude.{cond, ◌&&◌, not, List, [], ◌∷◌, ◌++◌, ℕ, eqb, leb, ltb}
use Rattle.lists.specs.Lists.{every}
use Rattle.meaning.specs.Keys.{coordinate, shared}

-- The keys of the cells other than the head whose dimension e is at most what they share with k, and whose coordinate e is at most k's. The
-- keys ascend, and `before` is the one before them (the head's, 0, before the first).
unfoldable pub counted : ℕ → ℕ → ℕ → ℕ → List ℕ → List ℕ
counted b D k before [] = []
counted b D k before (x ∷ keys) =
    let e = shared b D before x in
    cond (leb e (shared b D x k) && leb (coordinate b D x e) (coordinate b D k e)) (x ∷ counted b D k x keys) (counted b D k x keys)

-- the least standing key above k, as a list of at most one
unfoldable pub least_above : ℕ → List ℕ → List ℕ
least_above k [] = []
least_above k (x ∷ keys) = cond (ltb k x) (x ∷ []) (least_above k keys)

-- One more: the least standing key above k, if it is not counted yet and no standing cell, the head included, shares more with k.
unfoldable pub plus_one : ℕ → ℕ → ℕ → List ℕ → List ℕ → List ℕ
plus_one b D k keys [] = []
plus_one b D k keys (y ∷ others) =
    cond (every (λ z. leb (shared b D z k) (shared b D y k)) (0 ∷ keys) && every (λ x. not (eqb x y)) (counted b D k 0 keys)) (y ∷ []) []

-- the keys that looked counts, of the standing keys in ascending order
unfoldable pub rule : ℕ → ℕ → List ℕ → ℕ → List ℕ
rule b D keys k = counted b D k 0 keys ++ plus_one b D k keys (least_above k keys)
