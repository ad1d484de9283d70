-- `fields::Scope::by_code` meets its contract: a create's and a destroy's parameter is one that fits.
-- Assumes nothing.
use Rattle.std.proofs.Common.{rules, ◌≡◌, length}
use Rattle.laws.proofs.Walks.{long}
use Rattle.accepted.specs.Answers.{before}
use Rattle.accepted.proofs.SchemeLaws.{used}
use Rattle.model.specs.Scheme.{parameters_of, tests_of, creatable, destroyable}
use Rattle.command_bytes.specs.Read.{thing}
use Rattle.command_bytes.proofs.fields.Scope.by_code.Goals as goal

pub returns-in-Create : goal.returns-in-Create
unfolding thing
returns-in-Create c =
    let a = c.args in
    let p = a.self.parameters in
    let many : length (parameters_of p) ≡ p.count = used p.types p.count (search (rules, long)) (search rules) in
    rw (c.in-Create.is, many) (c.three_at.ensures (creatable (tests_of a.t) (before a.o a.n)) (λ row r e. search rules))

pub returns-in-Destroy : goal.returns-in-Destroy
unfolding thing
returns-in-Destroy c =
    let a = c.args in
    let p = a.self.parameters in
    let many : length (parameters_of p) ≡ p.count = used p.types p.count (search (rules, long)) (search rules) in
    rw (c.in-Destroy.is, many) (c.three_at-in-Destroy.ensures (destroyable (before a.o a.n)) (λ row r e. search rules))
