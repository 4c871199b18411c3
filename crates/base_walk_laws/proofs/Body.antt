-- The parts of a body: a walk names a statement, what is left after it, and the arms of a branch by them.
use mir.Syntax.{Body, skip, seq, assign, block, loop, cond, switch, exit, return, call, unreachable, call_v, lend_static}

-- the two parts of a body that has two
abbrev parts : Body → Body × Body
parts skip = (skip, skip)
parts (seq a b) = (a, b)
parts (assign p r) = (skip, skip)
parts (block b) = (skip, skip)
parts (loop b) = (skip, skip)
parts (cond c a b) = (a, b)
parts (switch c arms) = (skip, skip)
parts (exit n) = (skip, skip)
parts return = (skip, skip)
parts (call f xs p) = (skip, skip)
parts unreachable = (skip, skip)
parts (call_v _ _ _ _) = (skip, skip)
parts (lend_static _ _ _) = (skip, skip)

-- of statements in a row
abbrev pub head_of : Body → Body
head_of body = (parts body).0

abbrev pub tail : Body → Body
tail body = (parts body).1

-- of a branch
abbrev pub then_of : Body → Body
then_of body = (parts body).0

abbrev pub else_of : Body → Body
else_of body = (parts body).1
