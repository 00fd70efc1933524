use Rattle.std.proofs.Common.{rules}
use borrow.Author.Tests.{tests}
use Rattle.gates.proofs.Rows.{kept_found, kept_pushed}
use Rattle.gates.proofs.keeping.keep_row.Goals as goal

pub returns-in-Some : goal.returns-in-Some
returns-in-Some g c = kept_found c.args.store.now c.args.row c.in-Some.k c.in-Some.ensures

pub returns : goal.returns
returns g c = kept_pushed c.args.store.now c.push.new.self c.args.row c.push.result c.map_err.result c.in_default.ensures c.push.ensures (search (rules, tests))
