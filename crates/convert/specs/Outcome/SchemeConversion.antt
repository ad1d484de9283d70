-- The converted scheme; where it is refused, the scheme as it was handed in.
-- Assumes nothing.
use Rattle.model.specs.declared.Scheme.{Scheme}
use Rattle.convert.specs.Outcome.Conversion.{Conversion}

pub record SchemeConversion : Type 0 where
  pub answer : Conversion
  pub scheme : Scheme
