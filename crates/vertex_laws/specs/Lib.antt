pub mod Vertex
pub mod Cube
pub mod HalfEdge
pub mod Loop
pub mod Laws
