-- The laws of the engine: what the code plans and stores is the model's step.
pub mod CellLaws
pub mod CarryLaws
pub mod PlanIsStep
pub mod StepLaws
pub mod ListLaws
