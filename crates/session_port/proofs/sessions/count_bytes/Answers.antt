use borrow.Author.Rules.{rules}
use Rattle.session_port.specs.Port.{count_bytes}
use Rattle.session_port.proofs.sessions.count_bytes.Goals as goal

pub returns : goal.returns
unfolding count_bytes
returns c = search rules
