-- `enter_name` searches the name's tree, and stores an entry, its number where the search ended, and the count. Assumes nothing.
use borrow.Author.Rules.{rules}
use Rattle.name_index.proofs.IndexLaws.{entered-known, entered-new}
use Rattle.name_index.proofs.enter_name.Goals as goal

pub returns-then-index-at-ne0 : goal.returns-then-index-at-ne0
returns-then-index-at-ne0 c = search (entered-known, rules)

pub returns : goal.returns
returns c = search (entered-new, rules)
