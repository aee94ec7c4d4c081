-- Each call of the reader is passed a smaller depth.
use Rattle.ps_formula.proofs.parser.+parser.Given as goal

abbrev pub decreases-after_argument : goal.decreases-after_argument
decreases-after_argument l = l.depth

abbrev pub decreases-argument : goal.decreases-argument
decreases-argument l = l.depth

abbrev pub decreases-arguments : goal.decreases-arguments
decreases-arguments l = l.depth

abbrev pub decreases-call : goal.decreases-call
decreases-call l = l.depth

abbrev pub decreases-level : goal.decreases-level
decreases-level l = l.depth

abbrev pub decreases-more : goal.decreases-more
decreases-more l = l.depth

abbrev pub decreases-prefixed : goal.decreases-prefixed
decreases-prefixed l = l.depth
