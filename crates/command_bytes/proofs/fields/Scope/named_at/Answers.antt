-- `fields::Scope::named_at` meets its contract.
-- Assumes nothing.
use Rattle.std.proofs.Common.{rules, ◌≡◌, length}
use Rattle.laws.proofs.Walks.{long}
use Rattle.accepted.proofs.SchemeLaws.{used}
use Rattle.model.specs.Scheme.{parameters_of, is_subject, type_at}
use Rattle.command_bytes.specs.Read.{named}
use Rattle.command_bytes.proofs.fields.Scope.named_at.Goals as goal

pub returns : goal.returns
unfolding named is_subject
returns c =
    let p = c.args.self.parameters in
    let many : length (parameters_of p) ≡ p.count = used p.types p.count (search (rules, long)) (search rules) in
    rw many (c.three_at.ensures (λ row. is_subject c.args.self.head (type_at (parameters_of p) row)) (λ row r e. search rules))
