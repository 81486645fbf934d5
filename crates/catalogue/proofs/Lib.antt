pub mod Catalogues
