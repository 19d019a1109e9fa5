mod HullRows
mod HullOutcomes
mod CornerPoints
mod FirstFaces
mod MergeRows
mod MergeOutcomes
mod WhichCommand
