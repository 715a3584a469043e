pub mod Every
pub mod ShapeTable
pub mod ListedShapes
