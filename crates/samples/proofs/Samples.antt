-- The samples are lists, and are none with one word altered: computed, word by word.
use mathlib.Core.Path.{◌≡◌, refl}
use mathlib.Core.Bool.{true}
use mathlib.Core.List.{[], ◌∷◌}
use Rattle.meaning.specs.Picture.{picture}
use Rattle.meaning.specs.Reading.{is_list}
use Rattle.meaning.specs.Operations.{fresh}
use Rattle.meaning.specs.Words.{word_index}
use Rattle.calls.proofs.Computing.{computing}
use Rattle.samples.specs.Samples.{joined, larger, smaller, figures, raised, lowered, refused_from}

-- the order program's list, fresh: 7,181 words
pub program_is_list : is_list (picture (fresh 8 4294967295 512)) ≡ true
unfolding computing
program_is_list = refl

-- two cells owe, thirteen of sixteen standing ones are live, freed cells 2 and 1 are first in the chain, cell 3 is the position
pub larger_figures : figures larger ≡ 2 ∷ 13 ∷ 16 ∷ 23 ∷ 3 ∷ 2 ∷ 1 ∷ []
unfolding larger joined computing
larger_figures = refl

pub larger_is_list : is_list larger ≡ true
unfolding larger joined computing
larger_is_list = refl

-- each of the 8 words of header and path
pub larger_header : refused_from raised larger 0 8 ≡ 8
unfolding refused_from larger joined computing
larger_header = refl

-- each of the 9 words of the head; of cell 3, which is dead and owes, and cell 4, from which it owes and which is live (its value may
-- be any); of the dead cell 9; of the free cells 2, 1 and 39, first, second and last in their chain
pub larger_head : refused_from raised larger (word_index 3 0 0) 9 ≡ 9
unfolding refused_from larger joined computing
larger_head = refl

pub larger_owing : refused_from raised larger (word_index 3 3 0) 9 ≡ 9
unfolding refused_from larger joined computing
larger_owing = refl

pub larger_owed_from : refused_from raised larger (word_index 3 4 0) 9 ≡ 7
unfolding refused_from larger joined computing
larger_owed_from = refl

pub larger_dead : refused_from raised larger (word_index 3 9 0) 9 ≡ 9
unfolding refused_from larger joined computing
larger_dead = refl

pub larger_free : refused_from raised larger (word_index 3 1 0) 18 ≡ 18
unfolding refused_from larger joined computing
larger_free = refl

pub larger_last_free : refused_from raised larger (word_index 3 39 0) 9 ≡ 9
unfolding refused_from larger joined computing
larger_last_free = refl

pub smaller_figures : figures smaller ≡ 1 ∷ 2 ∷ 4 ∷ 5 ∷ 5 ∷ 1 ∷ 6 ∷ []
unfolding smaller joined computing
smaller_figures = refl

pub smaller_is_list : is_list smaller ≡ true
unfolding smaller joined computing
smaller_is_list = refl

-- all 87 words, each altered in two ways: only the values of the two live cells may be any, and the keys of three cells are as good raised by one
pub smaller_raised : refused_from raised smaller 0 87 ≡ 82
unfolding refused_from smaller joined computing
smaller_raised = refl

pub smaller_lowered : refused_from lowered smaller 0 87 ≡ 85
unfolding refused_from smaller joined computing
smaller_lowered = refl
