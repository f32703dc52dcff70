-- `seek` goes through the tree of the name's hash by the hash's bits. Assumes nothing.
use borrow.Author.Rules.{rules}
use native.Mathlib.Omega.{arith}
use Rattle.name_index.proofs.TreeLaws.{seeking-start, seeking-room, seeking-inside, seeking-less, seeking-found, seeking-next, seeking-done}
use Rattle.name_index.proofs.seek.Goals as goal

pub loop-at-init : goal.loop-at-init
loop-at-init c = search (seeking-start, rules)

pub bounds-index-e : goal.bounds-index-e
bounds-index-e c = omega (arith, seeking-room c.loop-at.invariant c.loop-at-test.true)

pub token-other-requires : goal.token-other-requires
token-other-requires c = search (seeking-inside, rules)

pub returns-then-equal : goal.returns-then-equal
returns-then-equal c = seeking-found c.loop-at.invariant c.loop-at-test.true c.token-other.ensures
    c.equal.ensures c.if-equal.true

pub loop-at-smaller : goal.loop-at-smaller
loop-at-smaller c = search (seeking-less, rules)

pub loop-at-preserved : goal.loop-at-preserved
loop-at-preserved c = search (seeking-next, rules)

pub returns : goal.returns
returns c = search (seeking-done, rules)
