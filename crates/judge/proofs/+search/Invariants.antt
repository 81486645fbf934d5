-- It ends because z falls.
-- Assumes nothing.
use Rattle.judge.proofs.+search.Given as goal

abbrev pub decreases-search : goal.decreases-search
decreases-search l = l.z
