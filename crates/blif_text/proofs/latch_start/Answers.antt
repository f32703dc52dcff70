-- `latch_start` finds the token by how many there are. Assumes nothing.
use Rattle.blif_text.proofs.Starts.{only-start, third-start, no_start}
use Rattle.blif_text.proofs.latch_start.Goals as goal

pub returns-then-rest-eq1 : goal.returns-then-rest-eq1
returns-then-rest-eq1 c = let s = c.args in
    only-start s.text.now s.rest.now c.start_of.ensures c.if-rest-eq1.true c.token.ensures

pub returns-then-rest-gt2 : goal.returns-then-rest-gt2
returns-then-rest-gt2 c = let s = c.args in
    third-start s.text.now s.rest.now c.start_of-then-rest-gt2.ensures c.if-rest-gt2.true c.token-then-rest-gt2.ensures

pub returns-else-rest-gt2 : goal.returns-else-rest-gt2
returns-else-rest-gt2 c = let s = c.args in
    no_start s.text.now s.rest.now c.if-rest-eq1.false c.if-rest-gt2.false
