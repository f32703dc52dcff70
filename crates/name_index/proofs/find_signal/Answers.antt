-- `find_signal` searches the name's tree. Assumes nothing.
use borrow.Author.Rules.{rules}
use Rattle.name_index.proofs.IndexLaws.{sought-none, sought-signal}
use Rattle.name_index.proofs.find_signal.Goals as goal

pub returns-then-held-eq0 : goal.returns-then-held-eq0
returns-then-held-eq0 c = search (sought-none, rules)

pub returns-else-held-eq0 : goal.returns-else-held-eq0
returns-else-held-eq0 c = search (sought-signal, rules)
