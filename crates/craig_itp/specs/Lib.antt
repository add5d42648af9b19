pub mod CutTracer
pub mod Interpolants
pub mod Labellings
pub mod PartialValues
pub mod StepEdges
pub mod Walk
