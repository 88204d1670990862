use Rattle.lw_first.proofs.heads.head.Head.+of_window.Given as goal

-- each call reads one place less
abbrev pub decreases-of_window : goal.decreases-of_window
decreases-of_window l = l.k
