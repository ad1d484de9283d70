-- What a customer has to believe of conversion (`Conversion`), and what is promised of it: `Promises`, and in files of their own demand 3 and how many
-- steps a robot takes (`RobotSteps`).
pub mod Conversion
pub mod Promises
pub mod Demand3
pub mod RobotSteps
